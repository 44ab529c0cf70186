-- 01, 'Graph (`Graph::build`)': from a page's records to its graph.
use Rattle.std.specs.Prelude.{Bool, true, false, ◌||◌, List, ◌++◌, ℕ, ltb, length, replicate}
use Rattle.sightline.specs.Boxes.{edges}
use Rattle.corridors.specs.Merge as Implicit
use Rattle.corridors.specs.Merge.{anchors, directions}
use Rattle.corridors.specs.Sizes.{ANCHORS}
use Rattle.nodes.specs.Graph.{Graph, NODES, none}
use Rattle.scan.specs.Scan.{Anchors}
use Rattle.anchors.specs.Records.{BOX, Records}
use Rattle.anchors.specs.Explicit.{Columns, explicit}
use Rattle.graph.specs.Build.{Boxes, whole, made}

-- 'a box is padded by 10 units': the n rows of boxes, their least edges down and their greatest ones up
unfoldable pub padded_boxes : List ℕ → ℕ → Boxes
padded_boxes rows n =
    record { min_x = edges rows BOX 1 false n; min_y = edges rows BOX 2 false n; max_x = edges rows BOX 3 true n; max_y = edges rows BOX 4 true n; count = n }

-- 'Corridors': the implicit anchors between padded boxes
unfoldable pub implicit : Boxes → Implicit.Anchors
implicit b = anchors (record { count = b.count; from = b.min_x; to = b.max_x; low = b.min_y; high = b.max_y })

-- 'explicit anchors .. then implicit ones', which ignore no box
unfoldable pub then_implicit : Columns → Implicit.Anchors → Columns
then_implicit c a =
    record { xs = c.xs ++ a.xs; ys = c.ys ++ a.ys; dirs = c.dirs ++ directions a.level (length a.xs); boxes = c.boxes ++ replicate (length a.xs) none }

-- all anchors, of which the first e are explicit
abbrev pub anchors_of : ℕ → Columns → Anchors
anchors_of e c = record { xs = c.xs; ys = c.ys; dirs = c.dirs; boxes = c.boxes; explicit = e; count = length c.xs }

unfoldable pub all_anchors : Boxes → Columns → Anchors
all_anchors b c = anchors_of (length c.xs) (then_implicit c (implicit b))

-- 01, 'Limits': 'over 2,048 implicit anchors or 4,096 nodes', before pruning
unfoldable pub overfull : Boxes → Columns → Bool
overfull b c = ltb ANCHORS (length (implicit b).xs) || ltb NODES (whole b (all_anchors b c)).count

-- ---- of a page's records

unfoldable pub boxes_of_page : Records → Boxes
boxes_of_page r = padded_boxes r.boxes r.box_count

unfoldable pub anchors_of_page : Records → Anchors
anchors_of_page r = all_anchors (boxes_of_page r) (explicit r)

unfoldable pub crowded : Records → Bool
crowded r = overfull (boxes_of_page r) (explicit r)

-- the graph, pruned or not
unfoldable pub graph_of_page : Records → Bool → Graph
graph_of_page r pruned = made (boxes_of_page r) (anchors_of_page r) pruned
