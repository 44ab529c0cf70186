-- What the functions are lent, and what they keep.
use Rattle.std.specs.Prelude.{◌≡◌, List, ℕ, ℤ, length}
use Rattle.fixed.specs.Up.{ups}
use Rattle.fixed.specs.declared.Anchor.{Anchor as Lent}
use Rattle.fixed.specs.declared.PaddedBox.{PaddedBox}
use Rattle.fixed.specs.Boxes.{min_xs, min_ys, max_xs, max_ys, anchor_xs, anchor_ys, directions_of, ignored_of}
use Rattle.sightline.specs.Sight.{Rising}
use Rattle.sightline.specs.Beyond.{index}
use Rattle.nodes.specs.Graph.{Graph}
use Rattle.nodes.specs.Columns.{graph_of}
use Rattle.nodes.specs.Map.{Keyed}
use Rattle.scan.specs.declared.Builder.{Builder}
use Rattle.scan.specs.declared.Page.{Page as LentPage}
use Rattle.scan.specs.declared.Way.{Way as LentWay}
use Rattle.scan.specs.Walk.{Way}
use Rattle.scan.specs.Scan.{Page, Anchor, Anchors}

-- the boxes and the axis lists
abbrev pub page : List PaddedBox → List ℤ → List ℤ → Page
page boxes ax ay =
    record { min_x = min_xs boxes; min_y = min_ys boxes; max_x = max_xs boxes; max_y = max_ys boxes; boxes = length boxes; axis_x = ups ax; axis_y = ups ay }

abbrev pub page_in : LentPage → Page
page_in p = page p.boxes.now p.ax.now p.ay.now

abbrev pub way_in : LentWay → Way
way_in w = record { dir = index w.dir; across = w.across; axis = ups w.axis.now; from = w.from }

-- an anchor, and a list of anchors of which the first `explicit` are the explicit ones
abbrev pub anchor_in : Lent → Anchor
anchor_in a = record { x = a.x; y = a.y; dirs = a.directions; box = a.ignored }

abbrev pub anchors : List Lent → ℕ → Anchors
anchors s explicit =
    record { xs = anchor_xs s; ys = anchor_ys s; dirs = directions_of s; boxes = ignored_of s; explicit = explicit; count = length s }

-- the axis lists rise
pub record Paged (p : Page) : Type 0 where
  pub x_rising : Rising p.axis_x
  pub y_rising : Rising p.axis_y

-- the graph so far
abbrev pub graph_in : Builder → Graph
graph_in b = graph_of b.graph.now

-- the page, its columns and the graph are the same, and the graph's places are in the map
pub record Kept (v w : Builder) : Type 0 where
  pub same_page : w.page ≡ v.page
  pub same_columns : w.columns ≡ v.columns
  pub same_graph : w.graph.ghost_name ≡ v.graph.ghost_name
  pub keyed : Keyed w.map (graph_in w)
