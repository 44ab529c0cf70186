use Rattle.std.proofs.Common.{ℕ, ◌≡◌, ◌<◌}
use Rattle.nodes.specs.Graph.{onward}
use Rattle.nodes.specs.Columns.{graph_of}
use Rattle.astar.proofs.dir_to.Given as goal

abbrev pub invariant-loop-d : goal.invariant-loop-d
invariant-loop-d l = (k : ℕ) → k < l.d → onward (graph_of l.graph) k l.v ≡ l.w → ⊥
