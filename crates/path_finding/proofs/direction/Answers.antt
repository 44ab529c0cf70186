use Rattle.path_finding.proofs.Laws.{direction-on, direction-off}
use Rattle.path_finding.proofs.direction.Goals as goal

pub returns-then-k-line : goal.returns-then-k-line
returns-then-k-line c = direction-on _ _ _ _ _ c.if-k-line.true c.dir_to.ensures c.bit.ensures

pub returns-else-k-line : goal.returns-else-k-line
returns-else-k-line c = direction-off _ _ _ c.if-k-line.false
