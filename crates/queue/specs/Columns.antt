-- What a search keeps of its n nodes is five columns of n words each in one lent list, `cells`. The queue is the column of the sums.
use Rattle.std.specs.Prelude.{ℕ, List}
use Rattle.columns.specs.Columns.{column}

-- scores, estimates, predecessors, sums, marks
abbrev pub WIDTH : ℕ
WIDTH = 5

abbrev pub SUM : ℕ
SUM = 3

abbrev pub sums : ℕ → List ℕ → List ℕ
sums n cells = column SUM n cells
