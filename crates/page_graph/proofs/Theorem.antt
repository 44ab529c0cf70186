-- The graph of a page that is not crowded, about the definitions.
--     page-sound    it is what a search asks, explicit anchors are explicit nodes, pruning keeps what it should
--     told-crowded, told-made, told-nodes    either it is told that the page is crowded, or its graph is handed back
use Rattle.std.proofs.Common.{Option, None, Some}
use mathlib.Core.Path.{◌≡◌, refl}
use mathlib.Core.Bool.{Bool, true, false, ◌||◌}
use Prim.Native.Nat.{ℕ, ◌<◌, ◌≤◌}
use native.Mathlib.Omega.{arith}
use borrow.Author.Tests.{ltb-false}
use lib.ListN.{length, get_or, length-append, get_or-append}
use Rattle.fixed.proofs.Bools.{clash}
use Rattle.corridors.specs.Sizes.{ANCHORS}
use Rattle.nodes.specs.Graph.{Graph, NODES}
use Rattle.anchors.specs.Records.{Records}
use Rattle.anchors.specs.Explicit.{explicit}
use Rattle.graph.specs.Build.{whole, made}
use Rattle.graph.proofs.Theorem.{made-wf, made-keeps, made-explicit}
use Rattle.page_graph.specs.Page.{implicit, then_implicit, all_anchors, overfull, boxes_of_page, anchors_of_page, crowded, graph_of_page}
use Rattle.page_graph.specs.Lent.{Answered}
use Rattle.page_graph.specs.Claims.{PageSound}
use Rattle.page_graph.proofs.Explicits.{explicit-even}

or-false : (a b : Bool) → (a || b) ≡ false → (a ≡ false) × (b ≡ false)
or-false true b e = absurd (clash refl e)
or-false false b e = (refl, e)

-- within the limits
pub record Few (r : Records) : Type 0 where
  pub implicit_few : length (implicit (boxes_of_page r)).xs ≤ ANCHORS
  pub nodes_few : (whole (boxes_of_page r) (anchors_of_page r)).count ≤ NODES

pub page-few : (r : Records) → crowded r ≡ false → Few r
unfolding crowded overfull anchors_of_page
page-few r e =
    let t = or-false _ _ e in
    record { implicit_few = ltb-false _ _ t.0; nodes_few = ltb-false _ _ t.1 }

-- the explicit anchors come first
module _ (r : Records) (k : ℕ) (h : k < length (explicit r).xs) where
  pub anchor-in : k < (anchors_of_page r).count
  unfolding anchors_of_page all_anchors then_implicit
  anchor-in = simp length-append (omega arith)

  pub anchor-explicit : k < (anchors_of_page r).explicit
  unfolding anchors_of_page all_anchors
  anchor-explicit = h

  pub anchor-x : get_or (anchors_of_page r).xs k 0 ≡ get_or (explicit r).xs k 0
  unfolding anchors_of_page all_anchors then_implicit
  anchor-x = get_or-append (explicit r).xs _ 0 k h

  pub anchor-y : get_or (anchors_of_page r).ys k 0 ≡ get_or (explicit r).ys k 0
  unfolding anchors_of_page all_anchors then_implicit
  anchor-y = get_or-append (explicit r).ys _ 0 k (omega (arith, explicit-even r))

pub page-sound : PageSound
unfolding graph_of_page made
page-sound r pruned e =
    let f = (page-few r e).nodes_few in
    record { wf = made-wf (boxes_of_page r) (anchors_of_page r) pruned f; explicit_there = λ k h. rw (← anchor-x r k h, ← anchor-y r k h) (made-explicit (boxes_of_page r) (anchors_of_page r) pruned f k (anchor-in r k h) (anchor-explicit r k h)); keeps = made-keeps (boxes_of_page r) (anchors_of_page r) pruned f }

-- ---- what is told

module _ {A : Type 0} (t : Option A) (v : Graph) (full : Bool) (g : Graph) (a : Answered t v full g) where
  pub told-crowded : t ≡ None → full ≡ true
  told-crowded e = rw e at a

  pub told-made : (n : A) → t ≡ Some n → full ≡ false
  told-made n e = (rw e at a).0

  -- the graph that is handed back is the page's
  pub told-nodes : (n : A) → t ≡ Some n → v ≡ g
  told-nodes n e = (rw e at a).1
