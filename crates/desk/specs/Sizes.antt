-- The sizes of a desk in words.
use Rattle.std.specs.Prelude.{ℕ, ◌+◌, ◌-◌, ◌*◌}
use Rattle.book.specs.Sizes.{COPIES, BOX}
use Rattle.block.specs.Sizes.{BLOCK}

-- an undo entry: what it does, a place and the widest row
abbrev pub ENTRY : ℕ
ENTRY = 2 + BOX

-- the desk: a word, the depth of the pile; the block of the lists now; 32 undo entries; where the entries begin, their words, and those but the latest
abbrev pub NEXT : ℕ
NEXT = 1 + BLOCK

abbrev pub PILE : ℕ
PILE = COPIES * ENTRY

abbrev pub LATER : ℕ
LATER = PILE - ENTRY

abbrev pub DESK : ℕ
DESK = NEXT + PILE
