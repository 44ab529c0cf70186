-- The run from here is the run from the start, and no end has left the queue; each turn is one of the definition's, and makes what is left fall.
use Rattle.std.proofs.Common.{◌≡◌, None}
use Rattle.astar.specs.Lent.{graph_in, ends_in, state_in, HeldIn, Kept}
use Rattle.astar.proofs.State.{mu}
use Rattle.astar.proofs.Turn.{Going}
use Rattle.astar.proofs.Search.run.Given as goal

abbrev pub invariant-outer : goal.invariant-outer
invariant-outer l = record {
  going : Going l.fn.self.graph.now.count (graph_in l.fn.self) (ends_in l.fn.self) l.start (state_in l.self);
  held : HeldIn l.self;
  kept : Kept l.fn.self l.self;
  none : l.found ≡ None;
}

abbrev pub decreases-outer : goal.decreases-outer
decreases-outer l = mu (state_in l.self)
