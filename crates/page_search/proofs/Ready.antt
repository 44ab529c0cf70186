-- A page's anchors have coordinates of 32 bits, so that its graph can be searched.
use mathlib.Core.Path.{◌≡◌}
use mathlib.Core.Bool.{Bool, false}
use mathlib.Core.List.{List}
use Prim.Native.Nat.{ℕ, ◌+◌, ◌*◌, ◌<◌}
use native.Mathlib.Omega.{arith}
use native.Mathlib.Nat.{not-suc-le-zero}
use lib.ListN.{get_or, length-append}
use Rattle.astar.specs.Reached.{LIMIT, Ready}
use Rattle.anchors.specs.Records.{ROW, Records}
use Rattle.anchors.specs.Explicit.{Columns, push, explicit}
use Rattle.graph.proofs.Coordinates.{Each, each_more, made-stands}
use Rattle.line_exists.proofs.Low.{Below, stands-low}
use Rattle.page_graph.specs.Page.{implicit, then_implicit, all_anchors, boxes_of_page, anchors_of_page, crowded, graph_of_page}
use Rattle.page_graph.proofs.Explicits.{Kept, explicit-keeps, explicit-even}
use Rattle.page_graph.proofs.Range.{each_both, implicit-placed}
use Rattle.page_graph.proofs.Theorem.{page-few, page-sound}
use Rattle.page_search.specs.Exists.{Sound}

abbrev Low : ℕ → Type 0
Low = Below LIMIT (omega arith)

record Lows (c : Columns) : Type 0 where
  pub xs_low : Each Low c.xs
  pub ys_low : Each Low c.ys

rows-low : (rows : List ℕ) (n : ℕ) → ((k : ℕ) → get_or rows k 0 < LIMIT) → Kept Lows rows n
unfolding push
rows-low rows n h =
    record { on = λ c k d b _ i. record { xs_low = each_more Low c.xs _ i.xs_low (h (k * ROW + 1)); ys_low = each_more Low c.ys _ i.ys_low (h (k * ROW + 2)) } }

module _ (r : Records) (s : Sound r) where
  lows : Lows (explicit r)
  lows =
      explicit-keeps Lows r (rows-low r.ports r.port_count s.port_words) (rows-low r.ends r.end_count s.end_words) (record { xs_low = λ k h. absurd (not-suc-le-zero h); ys_low = λ k h. absurd (not-suc-le-zero h) })

  pub x_low : (k : ℕ) → k < (anchors_of_page r).count → get_or (anchors_of_page r).xs k 0 < LIMIT
  unfolding anchors_of_page all_anchors then_implicit
  x_low k h =
      let p = implicit-placed r s.rows in
      each_both Low (explicit r).xs (implicit (boxes_of_page r)).xs lows.xs_low (λ j l. omega (arith, p.xs_within.greatest j l)) k h

  pub y_low : (k : ℕ) → k < (anchors_of_page r).count → get_or (anchors_of_page r).ys k 0 < LIMIT
  unfolding anchors_of_page all_anchors then_implicit
  y_low k h =
      let p = implicit-placed r s.rows in
      each_both Low (explicit r).ys (implicit (boxes_of_page r)).ys lows.ys_low (λ j l. omega (arith, p.ys_within.greatest j l)) k
      (omega (arith, length-append (explicit r).xs (implicit (boxes_of_page r)).xs, length-append (explicit r).ys (implicit (boxes_of_page r)).ys, explicit-even r, p.paired))

  pub page-ready : crowded r ≡ false → (pruned : Bool) → 0 < (graph_of_page r pruned).count → Ready (graph_of_page r pruned)
  unfolding graph_of_page
  page-ready e pruned some =
      let l = stands-low LIMIT (omega arith) (graph_of_page r pruned) (made-stands Low Low (boxes_of_page r) (anchors_of_page r) pruned (page-few r e).nodes_few x_low y_low) in
      record { some = some; wf = (page-sound r pruned e).wf; x_low = l.x_low; y_low = l.y_low }
