-- Each move back adds its length; the way to the side that the run goes towards falls by as much.
use Rattle.astar.specs.Lent.{graph_in, preds_in}
use Rattle.astar.proofs.Roads.{along}
use Rattle.astar.proofs.Laws.{Walk}
use Rattle.astar.proofs.Search.length_in_direction.Given as goal

abbrev pub invariant-loop-p : goal.invariant-loop-p
invariant-loop-p l = Walk (graph_in l.self) (preds_in l.self) l.dir l.from l.len l.node

abbrev pub decreases-loop-p : goal.decreases-loop-p
decreases-loop-p l = along (graph_in l.self) l.dir l.node
