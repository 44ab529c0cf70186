-- What is left to take out from the row k on gives what all following rows give.
use Rattle.std.proofs.Common.{◌≡◌, ◌-◌, length}
use Rattle.corridors.specs.Merge.{take_out}
use Rattle.corridors.specs.Lent.{run, table}
use Rattle.corridors.proofs.take_out.Given as goal

abbrev pub invariant-loop-k : goal.invariant-loop-k
invariant-loop-k l = take_out (run l.v) l.k (length l.initial.rows - l.k) (table l.rows) ≡ take_out (run l.v) l.from (length l.initial.rows - l.from) (table l.initial.rows)
