use Rattle.std.proofs.Common.{arith}
use Rattle.astar.proofs.Laws.{nearest-begin, nearest-more, nearest-done}
use Rattle.astar.proofs.Search.estimate.Goals as goal

pub loop-e-init : goal.loop-e-init
loop-e-init c = (omega arith, nearest-begin _ _ _ _)

pub loop-e-preserved : goal.loop-e-preserved
loop-e-preserved c = rw c.min-best.ensures (omega (arith, c.loop-e.invariant.0), nearest-more _ _ _ _ _ _ _ c.loop-e-test.true c.loop-e.invariant.1 c.distance.ensures.0)

pub returns : goal.returns
returns c = (nearest-done _ _ _ _ c.loop-e.e-index c.loop-e.best c.loop-e-test.false c.loop-e.invariant.0 c.loop-e.invariant.1, c.loop-e.invariant.0)
