-- Each node stands at coordinates of anchors, and these are fields or lie within the padded edges: no node lies further out than a padded box can.
--     page-ranged, ranged-low, ranged-wider
use mathlib.Core.Path.{◌≡◌, refl}
use mathlib.Core.Bool.{true, false}
use mathlib.Core.List.{List, ◌++◌}
use Prim.Native.Nat.{ℕ, ◌+◌, ◌-◌, ◌<◌, ◌≤◌}
use native.Mathlib.Omega.{arith}
use native.Mathlib.Nat.{not-suc-le-zero}
use lib.ListN.{length, get_or, length-append, get_or-append}
use lib.Seq.{get_or-append-add}
use Rattle.fixed.specs.Constants.{PADDING, LEAST, GREATEST}
use Rattle.sightline.specs.Boxes.{Fields}
use Rattle.axis.proofs.Small.{Place, place, before, beyond}
use Rattle.corridors.specs.Rules.{Within}
use Rattle.corridors.specs.Rules as Rules
use Rattle.corridors.proofs.Places.{anchors-placed}
use Rattle.nodes.specs.Graph.{Graph, X, Y}
use Rattle.nodes.specs.Wf.{Wf}
use Rattle.anchors.specs.Records.{BOX, ROW, Records}
use Rattle.anchors.specs.Explicit.{Columns, push, explicit}
use Rattle.graph.proofs.Coordinates.{Each, each_all, each_more, made-stands}
use Rattle.graph.proofs.Theorem.{made-wf}
use Rattle.page_graph.specs.Page.{padded_boxes, implicit, then_implicit, all_anchors, boxes_of_page, anchors_of_page, graph_of_page}
use Rattle.page_graph.specs.Lent.{Asked}
use Rattle.page_graph.specs.Claims.{Placed, Ranged, PageRanged}
use Rattle.page_graph.proofs.Explicits.{Kept, explicit-keeps, explicit-even}
use Rattle.page_graph.proofs.Parts.{edges-bounded}
use Rattle.page_graph.proofs.Theorem.{page-few}

-- from the least padded edge to the greatest
abbrev In : ℕ → Type 0
In u = (LEAST - PADDING ≤ u) × (u ≤ GREATEST + PADDING)

pub each_both : (P : ℕ → Type 0) (a b : List ℕ) → Each P a → Each P b → Each P (a ++ b)
each_both P a b f g k h = by (place (length a) k)
  where
    by : Place (length a) k → P (get_or (a ++ b) k 0)
    by (before l) = rw (get_or-append a b 0 k l) (f k l)
    by (beyond j e) = rw (e, get_or-append-add a b j 0) (g j (omega (arith, length-append a b)))

-- ---- explicit anchors

record Inner (c : Columns) : Type 0 where
  xs_in : Each In c.xs
  ys_in : Each In c.ys

rows-inner : (rows : List ℕ) (n : ℕ) → Fields rows ROW 1 n → Fields rows ROW 2 n → Kept Inner rows n
unfolding push
rows-inner rows n fx fy =
    record { on = λ c k d b h i. record { xs_in = each_more In c.xs _ i.xs_in (omega (arith, fx.least k h), omega (arith, fx.greatest k h)); ys_in = each_more In c.ys _ i.ys_in (omega (arith, fy.least k h), omega (arith, fy.greatest k h)) } }

explicit-inner : (r : Records) → Placed r → Inner (explicit r)
explicit-inner r p =
    explicit-keeps Inner r (rows-inner r.ports r.port_count p.port_x p.port_y) (rows-inner r.ends r.end_count p.end_x p.end_y) (record { xs_in = λ k h. absurd (not-suc-le-zero h); ys_in = λ k h. absurd (not-suc-le-zero h) })

-- ---- implicit ones

pub implicit-placed : (r : Records) → Asked r → Rules.Placed (LEAST - PADDING) (GREATEST + PADDING) (implicit (boxes_of_page r))
unfolding implicit boxes_of_page padded_boxes
implicit-placed r a =
    anchors-placed (LEAST - PADDING) (GREATEST + PADDING) _ a.few_boxes (edges-bounded r.boxes BOX 1 false r.box_count a.edged.least_x) (edges-bounded r.boxes BOX 3 true r.box_count a.edged.greatest_x) (edges-bounded r.boxes BOX 2 false r.box_count a.edged.least_y) (edges-bounded r.boxes BOX 4 true r.box_count a.edged.greatest_y)

within-each : (l : List ℕ) → Within (LEAST - PADDING) (GREATEST + PADDING) l → Each In l
within-each l w k h = (w.least k h, w.greatest k h)

-- ---- all of them

module _ (r : Records) (a : Asked r) (p : Placed r) where
  xs-each : Each In (anchors_of_page r).xs
  unfolding anchors_of_page all_anchors then_implicit
  xs-each = each_both In (explicit r).xs (implicit (boxes_of_page r)).xs (explicit-inner r p).xs_in (within-each _ (implicit-placed r a).xs_within)

  ys-each : Each In (anchors_of_page r).ys
  unfolding anchors_of_page all_anchors then_implicit
  ys-each = each_both In (explicit r).ys (implicit (boxes_of_page r)).ys (explicit-inner r p).ys_in (within-each _ (implicit-placed r a).ys_within)

  as_many : (anchors_of_page r).count ≡ length (anchors_of_page r).ys
  unfolding anchors_of_page all_anchors then_implicit
  as_many = simp length-append (omega (arith, explicit-even r, (implicit-placed r a).paired))

  counted : (anchors_of_page r).count ≡ length (anchors_of_page r).xs
  unfolding anchors_of_page all_anchors
  counted = refl

pub page-ranged : PageRanged
unfolding graph_of_page
page-ranged r pruned a p e =
    let few = (page-few r e).nodes_few in
    let s = made-stands In In (boxes_of_page r) (anchors_of_page r) pruned few (λ k h. xs-each r a p k (omega (arith, counted r a p))) (λ k h. ys-each r a p k (omega (arith, as_many r a p))) in
    let w = (made-wf (boxes_of_page r) (anchors_of_page r) pruned few).good in
    record { x_least = λ v h. (s.xs_are v (omega (arith, w.x_long))).0; x_greatest = λ v h. (s.xs_are v (omega (arith, w.x_long))).1; y_least = λ v h. (s.ys_are v (omega (arith, w.y_long))).0; y_greatest = λ v h. (s.ys_are v (omega (arith, w.y_long))).1 }

-- what a search asks of coordinates: all are below 2^32, also what is read past the last node
pub record Low (g : Graph) : Type 0 where
  pub x_low : (v : ℕ) → X g v < 4294967296
  pub y_low : (v : ℕ) → Y g v < 4294967296

pub ranged-low : (g : Graph) → Wf g → Ranged (LEAST - PADDING) (GREATEST + PADDING) g → Low g
ranged-low g w t =
    record { x_low = each_all (λ u. u < 4294967296) g.xs (omega arith) (λ k h. omega (arith, t.x_greatest k (omega (arith, w.good.x_long)))); y_low = each_all (λ u. u < 4294967296) g.ys (omega arith) (λ k h. omega (arith, t.y_greatest k (omega (arith, w.good.y_long)))) }

-- within any wider bounds
pub ranged-wider : {p q u v : ℕ} {g : Graph} → u ≤ p → q ≤ v → Ranged p q g → Ranged u v g
ranged-wider h k t =
    record { x_least = λ i l. omega (arith, t.x_least i l); x_greatest = λ i l. omega (arith, t.x_greatest i l); y_least = λ i l. omega (arith, t.y_least i l); y_greatest = λ i l. omega (arith, t.y_greatest i l) }
