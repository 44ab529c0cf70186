-- What is kept of the first k nodes is listed.
use Rattle.std.proofs.Common.{◌≡◌, ◌≤◌, take}
use Rattle.path_finding.specs.Line.{pruned}
use Rattle.path_finding.proofs.iter_pruned.Given as goal

abbrev pub invariant-loop-k : goal.invariant-loop-k
invariant-loop-k l = (l.r ≤ l.k) × (take l.r l.kept ≡ pruned l.kinds l.dirs l.k)
