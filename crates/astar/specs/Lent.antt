-- What a `Search` of the code holds, as the definitions see it.
use Rattle.std.specs.Prelude.{ℕ, ◌≡◌, List}
use Rattle.nodes.specs.Graph.{Graph}
use Rattle.nodes.specs.Columns.{graph_of}
use Rattle.astar.specs.Search.{St}
use Rattle.astar.specs.Scratch.{estimates, preds, state, Unreached, Estimated, Held}
use Rattle.astar.specs.declared.Search.{Search}

abbrev pub graph_in : Search → Graph
graph_in s = graph_of s.graph.now

abbrev pub ends_in : Search → List ℕ
ends_in s = s.ends.now

abbrev pub preds_in : Search → List ℕ
preds_in s = preds s.graph.now.count s.cells.now

abbrev pub state_in : Search → St
state_in s = state s.graph.now.count s.cells.now

abbrev pub UnreachedIn : Search → Type 0
UnreachedIn s = Unreached s.graph.now.count s.cells.now

abbrev pub EstimatedIn : Search → Type 0
EstimatedIn s = Estimated s.graph.now.count (graph_in s).xs (graph_in s).ys s.ends.now (estimates s.graph.now.count s.cells.now)

abbrev pub HeldIn : Search → Type 0
HeldIn s = Held s.graph.now.count (graph_in s).xs (graph_in s).ys s.ends.now s.cells.now s.tree.now

-- the same graph and ends, in the same lent lists
pub record Kept (s t : Search) : Type 0 where
  pub same_graph : t.graph ≡ s.graph
  pub same_ends : t.ends ≡ s.ends
  pub same_cells : t.cells.ghost_name ≡ s.cells.ghost_name
  pub same_tree : t.tree.ghost_name ≡ s.tree.ghost_name
