-- What is true of the graph of every page that is not crowded: statements about the definitions.
use Rattle.std.specs.Prelude.{◌≡◌, Bool, false, ℕ, ◌+◌, ◌-◌, ◌<◌, ◌≤◌, length, get_or}
use Rattle.fixed.specs.Constants.{PADDING, LEAST, GREATEST}
use Rattle.sightline.specs.Boxes.{Fields}
use Rattle.nodes.specs.Chains.{Explicit, Keeps}
use Rattle.nodes.specs.Graph.{Graph, X, Y}
use Rattle.nodes.specs.Wf.{Wf}
use Rattle.anchors.specs.Records.{ROW, Records}
use Rattle.anchors.specs.Explicit.{explicit}
use Rattle.page_graph.specs.Page.{crowded, graph_of_page}
use Rattle.page_graph.specs.Lent.{Asked}

-- pruned or not, it is what a search asks; each explicit anchor has a node that is marked explicit; and pruning keeps explicit nodes, makes no new place, and keeps
-- which of its places chains of links join and which have a link
pub record Sound (r : Records) (pruned : Bool) : Type 0 where
  pub wf : Wf (graph_of_page r pruned)
  pub explicit_there : (k : ℕ) → k < length (explicit r).xs → Explicit (graph_of_page r pruned) (get_or (explicit r).xs k 0) (get_or (explicit r).ys k 0)
  pub keeps : Keeps (graph_of_page r false) (graph_of_page r pruned)

abbrev pub PageSound : Type 0
PageSound = (r : Records) (pruned : Bool) → crowded r ≡ false → Sound r pruned

-- ---- where the nodes stand

-- 01, 'Limits': the coordinates of ports and ends are fields
pub record Placed (r : Records) : Type 0 where
  pub port_x : Fields r.ports ROW 1 r.port_count
  pub port_y : Fields r.ports ROW 2 r.port_count
  pub end_x : Fields r.ends ROW 1 r.end_count
  pub end_y : Fields r.ends ROW 2 r.end_count

-- each node stands from p to q on both axes
pub record Ranged (p q : ℕ) (g : Graph) : Type 0 where
  pub x_least : (v : ℕ) → v < g.count → p ≤ X g v
  pub x_greatest : (v : ℕ) → v < g.count → X g v ≤ q
  pub y_least : (v : ℕ) → v < g.count → p ≤ Y g v
  pub y_greatest : (v : ℕ) → v < g.count → Y g v ≤ q

-- no node lies further out than a padded box can
abbrev pub PageRanged : Type 0
PageRanged = (r : Records) (pruned : Bool) → Asked r → Placed r → crowded r ≡ false → Ranged (LEAST - PADDING) (GREATEST + PADDING) (graph_of_page r pruned)
