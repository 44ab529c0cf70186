-- The scratch of a search: the columns of its nodes, a tree over them, and a list of the ends, then of the line. It is lent with any contents.
use Rattle.std.specs.Prelude.{ℕ, ◌*◌, ◌≤◌, ◌<◌, ◌≡◌, List, length, get_or, replicate, pos}
use Rattle.fixed.specs.Up.{ups}
use Rattle.queue.specs.Queue.{UNSET}
use Rattle.queue.specs.Index.{Indexed}
use Rattle.queue.specs.Columns.{WIDTH, sums}
use Rattle.nodes.specs.Graph.{Graph, none}
use Rattle.nodes.specs.Columns.{graph_of}
use Rattle.astar.specs.Scratch.{scores, estimates, preds, marked}
use Rattle.path_finding.specs.Line.{Written}
use Rattle.path_finding.specs.declared.Ends.{Ends}
use Rattle.path_finding.specs.declared.Finder.{Finder}
use Rattle.path_finding.specs.declared.Output.{Output}

-- before a search of n nodes: nothing is marked, scored or estimated, and the queue is empty
pub record Blank (n : ℕ) (cells tree : List ℕ) : Type 0 where
  pub room : n * WIDTH ≤ length cells
  pub score_blank : scores n cells ≡ replicate n UNSET
  pub estimate_blank : estimates n cells ≡ replicate n UNSET
  pub pred_blank : preds n cells ≡ replicate n none
  pub sum_blank : sums n cells ≡ replicate n UNSET
  pub mark_blank : marked n cells ≡ replicate n 0
  pub index : Indexed (sums n cells) tree

-- behind the entry m nothing changed
pub record Behind (m : ℕ) (a b : List ℕ) : Type 0 where
  pub same : (j : ℕ) → m < j → get_or b j 0 ≡ get_or a j 0

-- ---- what is lent as one

abbrev pub graph_in : Finder → Graph
graph_in f = graph_of f.graph.now

abbrev pub ends_x : Ends → List ℕ
ends_x e = ups e.x.now

abbrev pub ends_y : Ends → List ℕ
ends_y e = ups e.y.now

-- the same graph, in the same lent lists, as long as before
pub record Kept (f g : Finder) : Type 0 where
  pub same_graph : g.graph ≡ f.graph
  pub same_cells : g.cells.ghost_name ≡ f.cells.ghost_name
  pub same_tree : g.tree.ghost_name ≡ f.tree.ghost_name
  pub same_list : g.list.ghost_name ≡ f.list.ghost_name
  pub long_cells : length g.cells.now ≡ length f.cells.now
  pub long_tree : length g.tree.now ≡ length f.tree.now
  pub long_list : length g.list.now ≡ length f.list.now

-- the line l of a graph is written
abbrev pub WrittenIn : Graph → List ℕ → Output → Type 0
WrittenIn G l o = Written G.xs G.ys G.links l (ups o.x.now) (ups o.y.now) o.kinds.now o.directions.now

-- zeros in lists of the same lengths
pub record Cleared (a b : Output) : Type 0 where
  pub no_x : b.x.now ≡ replicate (length a.x.now) (pos 0)
  pub no_y : b.y.now ≡ replicate (length a.y.now) (pos 0)
  pub no_kind : b.kinds.now ≡ replicate (length a.kinds.now) 0
  pub no_direction : b.directions.now ≡ replicate (length a.directions.now) 0

-- the same lent lists, as long as before
pub record KeptOutput (a b : Output) : Type 0 where
  pub same_x : b.x.ghost_name ≡ a.x.ghost_name
  pub same_y : b.y.ghost_name ≡ a.y.ghost_name
  pub same_kinds : b.kinds.ghost_name ≡ a.kinds.ghost_name
  pub same_directions : b.directions.ghost_name ≡ a.directions.ghost_name
  pub long_x : length b.x.now ≡ length a.x.now
  pub long_y : length b.y.now ≡ length a.y.now
  pub long_kinds : length b.kinds.now ≡ length a.kinds.now
  pub long_directions : length b.directions.now ≡ length a.directions.now
