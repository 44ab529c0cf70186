-- Each direction's move follows on the moves of those before it.
use Rattle.std.proofs.Common.{◌≡◌}
use Rattle.astar.specs.Search.{way, relax_to}
use Rattle.astar.specs.Lent.{graph_in, ends_in, state_in, HeldIn, Kept}
use Rattle.astar.proofs.Search.expand.Given as goal

abbrev pub invariant-loop-dir : goal.invariant-loop-dir
invariant-loop-dir l = record {
  value : state_in l.self ≡ relax_to l.dir (graph_in l.initial.self) (ends_in l.initial.self) (state_in l.initial.self) l.u (way l.arrived) l.penalty;
  held : HeldIn l.self;
  kept : Kept l.initial.self l.self;
}
