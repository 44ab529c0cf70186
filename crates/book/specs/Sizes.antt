-- 01, 'Limits', and 02, S-1: ids, how many records a list holds, and how many changes can be undone. A record is a row of words, its fields.
use Rattle.std.specs.Prelude.{ℕ}

-- 02, S-1: ids go from 1 to 4,294,967,295
abbrev pub IDS : ℕ
IDS = 4294967295

-- copies on the pile
abbrev pub COPIES : ℕ
COPIES = 32

-- the words of a row
abbrev pub BOX : ℕ
BOX = 5

abbrev pub PORT : ℕ
PORT = 4

abbrev pub NET : ℕ
NET = 1

abbrev pub END : ℕ
END = 4

-- the rows of a list
abbrev pub BOXES : ℕ
BOXES = 64

abbrev pub PORTS : ℕ
PORTS = 256

abbrev pub NETS : ℕ
NETS = 64

abbrev pub ENDS : ℕ
ENDS = 256
