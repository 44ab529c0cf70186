-- What is handed back: that the page is crowded, or its graph.
--     made-answered                   of a graph that was made
--     grown, grown-answer             of the explicit anchors and the implicit ones behind them
--     page-full, page-made            of a page
use Rattle.std.proofs.Common.{Option, None, Some}
use mathlib.Core.Path.{◌≡◌, ◌∙◌}
use mathlib.Core.Bool.{Bool, true}
use mathlib.Core.List.{List, ◌++◌}
use Prim.Native.Nat.{ℕ, ◌+◌, ◌<◌, ◌≤◌}
use native.Mathlib.Omega.{arith}
use borrow.Author.Tests.{lt-ltb, le-ltb}
use lib.Dec.{ltb}
use lib.ListN.{length, take, length-map}
use lib.Seq.{length-take-le}
use Rattle.fixed.specs.declared.Anchor.{Anchor}
use Rattle.fixed.specs.declared.PaddedBox.{PaddedBox}
use Rattle.corridors.specs.Answer.{Given}
use Rattle.corridors.specs.Grid.{stacked}
use Rattle.corridors.specs.Merge.{anchors}
use Rattle.corridors.specs.Sizes.{ANCHORS}
use Rattle.nodes.specs.Graph.{Graph, NODES}
use Rattle.anchors.specs.Records.{Records}
use Rattle.scan.specs.Lent.{anchors as lent}
use Rattle.anchors.specs.Explicit.{Columns, explicit, columns}
use Rattle.graph.specs.Build.{Boxes, boxes_of, whole, made, Made}
use Rattle.page_graph.specs.Page.{padded_boxes, boxes_of_page, anchors_of_page, crowded, graph_of_page, implicit, then_implicit, anchors_of, all_anchors, overfull}
use Rattle.page_graph.specs.Lent.{Answered}
use Rattle.page_graph.proofs.Laying.{laid, anchors-part}

made-answered : {A : Type 0} (r : Option A) (v u g : Graph) → Made r u g v → Answered r v (ltb NODES u.count) g
made-answered None v u g d = lt-ltb NODES u.count d
made-answered (Some _) v u g d = (le-ltb NODES u.count d.0, d.1)

-- ---- all anchors

module _ (b : Boxes) (c : Columns) where
  overfull-implicit : ANCHORS < length (implicit b).xs → overfull b c ≡ true
  unfolding overfull
  overfull-implicit h = rw (lt-ltb ANCHORS (length (implicit b).xs) h)

  overfull-nodes : length (implicit b).xs ≤ ANCHORS → overfull b c ≡ ltb NODES (whole b (all_anchors b c)).count
  unfolding overfull
  overfull-nodes h = rw (le-ltb ANCHORS (length (implicit b).xs) h)

  -- the anchors v are those of c, e of them, and the implicit ones
  module _ (v : Columns) (e : ℕ) (l : length c.xs ≡ e) (g : v ≡ then_implicit c (implicit b)) where
    grown : anchors_of e v ≡ all_anchors b c
    unfolding all_anchors
    grown = rw (g, ← l)

    grown-answer : (pruned : Bool) {A : Type 0} (r : Option A) (o : Graph) → length (implicit b).xs ≤ ANCHORS → Answered r o (ltb NODES (whole b (anchors_of e v)).count) (made b (anchors_of e v) pruned) → Answered r o (overfull b c) (made b (all_anchors b c) pruned)
    grown-answer pruned r o h a = rw (overfull-nodes h, ← grown) a

-- ---- a page

page-answer : (r : Records) (b : Boxes) (c : Columns) (pruned : Bool) {A : Type 0} (n : Option A) (w : Graph) → b ≡ padded_boxes r.boxes r.box_count → c ≡ explicit r → Answered n w (overfull b c) (made b (all_anchors b c) pruned) → Answered n w (crowded r) (graph_of_page r pruned)
unfolding crowded graph_of_page anchors_of_page boxes_of_page
page-answer r b c pruned n w e f a = rw (← e, ← f) a

-- its padded boxes are bs, and its explicit anchors the first e of l
module _ (r : Records) (bs : List PaddedBox) (l : List Anchor) (e : ℕ) (p : boxes_of bs ≡ padded_boxes r.boxes r.box_count) (x : columns (take e l) ≡ explicit r) where
  -- too many implicit anchors
  pub page-full : ANCHORS < length (anchors (stacked bs)).xs → crowded r ≡ true
  unfolding implicit crowded boxes_of_page
  page-full h = rw (← p, ← x) (overfull-implicit (boxes_of bs) (columns (take e l)) h)

  -- m of them, at the head of s, behind the explicit ones: the list w
  pub page-made : (pruned : Bool) (m : ℕ) (s t w : List Anchor) {A : Type 0} (n : Option A) (o : Graph) → e ≤ length l → Given m s (anchors (stacked bs)) → w ≡ take (e + m) (take e l ++ (s ++ t))
      → Made n (whole (boxes_of bs) (lent w e)) (made (boxes_of bs) (lent w e) pruned) o
      → Answered n o (crowded r) (graph_of_page r pruned)
  unfolding implicit
  page-made pruned m s t w n o h g q d =
      let c : Columns = columns (take e l) in
      let k : length c.xs ≡ e = length-map (take e l) _ ∙ length-take-le e l h in
      let v : columns w ≡ then_implicit c (implicit (boxes_of bs)) = rw q (laid e m l s t (anchors (stacked bs)) h g) in
      let a = made-answered n o _ _ d in
      page-answer r (boxes_of bs) c pruned n o p x (grown-answer (boxes_of bs) c (columns w) e k v pruned n o (omega (arith, g.few, g.count)) (rw (anchors-part w e) at a))
