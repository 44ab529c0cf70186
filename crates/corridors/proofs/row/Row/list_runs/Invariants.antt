-- The runs of the cells so far.
use Rattle.std.proofs.Common.{◌≡◌}
use Rattle.corridors.specs.Lent.{row, listed}
use Rattle.corridors.proofs.row.Row.list_runs.Given as goal

abbrev pub invariant-loop-k : goal.invariant-loop-k
invariant-loop-k l = row l.self ≡ listed l.marks l.k
