-- 01, 'Limits': the sizes that 64 boxes and 2,048 implicit anchors give.
use Rattle.std.specs.Prelude.{ℕ}

-- the edges of the boxes on one axis
abbrev pub EDGES : ℕ
EDGES = 128

-- the empty runs of a row: at most one for two cells
abbrev pub RUNS : ℕ
RUNS = 64

-- a run's first cell counts so many times as much as its end
abbrev pub SPAN : ℕ
SPAN = 256

abbrev pub ANCHORS : ℕ
ANCHORS = 2048

-- an anchor that ignores no box
abbrev pub NONE : ℕ
NONE = 4294967295

-- directions: 1 NegX and 2 PosX, 4 NegY and 8 PosY
abbrev pub X : ℕ
X = 3

abbrev pub Y : ℕ
Y = 12
