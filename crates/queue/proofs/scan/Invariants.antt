-- The first least of the entries that were passed.
use Rattle.queue.specs.Index.{LeastIn}
use Rattle.queue.specs.Columns.{sums}
use Rattle.queue.proofs.scan.Given as goal

abbrev pub invariant-loop-i : goal.invariant-loop-i
invariant-loop-i l = LeastIn (sums l.n l.cells) 0 l.i l.best
