-- 01, 'Graph': 'the axis lists are all anchors' sorted distinct x and y'; the graph of padded boxes and anchors, pruned or not.
use Rattle.std.specs.Prelude.{◌≡◌, Bool, cond, List, ℕ, ◌<◌, ◌≤◌, length, Option, Some, None}
use Rattle.fixed.specs.declared.PaddedBox.{PaddedBox}
use Rattle.fixed.specs.Boxes.{min_xs, min_ys, max_xs, max_ys}
use Rattle.axis.specs.Axis.{axis}
use Rattle.nodes.specs.Graph.{Graph, NODES}
use Rattle.scan.specs.Scan.{Page, Anchors, build}
use Rattle.prune.specs.Prune.{prune}

-- padded boxes
pub record Boxes : Type 0 where
  pub min_x : List ℕ
  pub min_y : List ℕ
  pub max_x : List ℕ
  pub max_y : List ℕ
  pub count : ℕ

abbrev pub boxes_of : List PaddedBox → Boxes
boxes_of l = record { min_x = min_xs l; min_y = min_ys l; max_x = max_xs l; max_y = max_ys l; count = length l }

abbrev pub built_page : Boxes → Anchors → Page
built_page b s =
    record { min_x = b.min_x; min_y = b.min_y; max_x = b.max_x; max_y = b.max_y; boxes = b.count; axis_x = axis s.xs s.count; axis_y = axis s.ys s.count }

-- 01, 'Limits': 4,096 nodes before pruning. The graph before pruning, and what is handed back
unfoldable pub whole : Boxes → Anchors → Graph
whole b s = build (built_page b s) s

unfoldable pub made : Boxes → Anchors → Bool → Graph
made b s pruned = cond pruned (prune (whole b s)) (whole b s)

-- None if the graph g, from which h is made, is over the limit, else the graph that is handed back is h
abbrev pub Made : {A : Type 0} → Option A → Graph → Graph → Graph → Type 0
Made None g h v = NODES < g.count
Made (Some _) g h v = (g.count ≤ NODES) × (v ≡ h)
