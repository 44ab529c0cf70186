-- The padded edges, and where they lie.
use mathlib.Core.Path.{◌≡◌, refl, ap, ◌∙◌}
use mathlib.Core.Bool.{Bool, true, false}
use mathlib.Core.List.{List, [], ◌∷◌, ◌++◌}
use Prim.Native.Nat.{ℕ, zero, suc, ◌+◌, ◌-◌, ◌*◌, ◌<◌, ◌≤◌}
use native.Mathlib.Omega.{arith}
use lib.IntN.{ℤ}
use lib.ListN.{length, get_or, get_or-append}
use lib.Seq.{get_or_at}
use Rattle.fixed.specs.Constants.{PADDING, LEAST, GREATEST}
use Rattle.fixed.specs.Up.{up, ups}
use Rattle.fixed.specs.Boxes.{min_xs, min_ys, max_xs, max_ys}
use Rattle.fixed.specs.declared.PaddedBox.{PaddedBox}
use Rattle.axis.proofs.Small.{Same, yes, no, same?}
use Rattle.sightline.specs.Boxes.{padded, edges, Fields}
use Rattle.sightline.proofs.Padding.{length-edges}
use Rattle.corridors.specs.Answer.{Inside, Bounded}
use Rattle.corridors.specs.Rules.{Padded}
use Rattle.corridors.proofs.Places.{padded-inside}
use Rattle.anchors.specs.Records.{BOX}
use Rattle.graph.specs.Build.{boxes_of}
use Rattle.page_graph.specs.Lent.{Edged}
use Rattle.page_graph.specs.Page.{padded_boxes}

pub ups-append : (a b : List ℤ) → ups (a ++ b) ≡ ups a ++ ups b
unfolding ups
ups-append [] b = refl
ups-append (z ∷ a) b = ap (λ (l : List ℕ). up z ∷ l) (ups-append a b)

-- ---- the padded edges

pub edges_at : (rows : List ℕ) (width field : ℕ) (high : Bool) (n k : ℕ) → k < n → get_or (edges rows width field high n) k 0 ≡ padded high (get_or rows (k * width + field) 0)
unfolding edges
edges_at rows width field high zero k h = absurd (omega arith)
edges_at rows width field high (suc n) k h = by (same? k n) (λ l. edges_at rows width field high n k l)
  where
    by : Same k n → (k < n → get_or (edges rows width field high n) k 0 ≡ padded high (get_or rows (k * width + field) 0)) → get_or (edges rows width field high n ++ (padded high (get_or rows (n * width + field) 0) ∷ [])) k 0 ≡ padded high (get_or rows (k * width + field) 0)
    by (yes e) f = rw e (get_or_at (edges rows width field high n) (padded high (get_or rows (n * width + field) 0)) [] 0 n (length-edges rows width field high n))
    by (no d) f = get_or-append (edges rows width field high n) (padded high (get_or rows (n * width + field) 0) ∷ []) 0 k (omega (arith, length-edges rows width field high n)) ∙ f (omega arith)

-- a padded coordinate of a page lies within the padding of the fields' range
pub padded-between : (high : Bool) (u : ℕ) → LEAST ≤ u → u ≤ GREATEST → (LEAST - PADDING ≤ padded high u) × (padded high u ≤ GREATEST + PADDING)
unfolding padded
padded-between true u a b = (omega arith, omega arith)
padded-between false u a b = (omega arith, omega arith)

pub edges-bounded : (rows : List ℕ) (width field : ℕ) (high : Bool) (n : ℕ) → Fields rows width field n → Padded n (edges rows width field high n)
edges-bounded rows width field high n f =
    record { least = λ k h. rw (edges_at rows width field high n k h) (padded-between high _ (f.least k h) (f.greatest k h)).0; greatest = λ k h. rw (edges_at rows width field high n k h) (padded-between high _ (f.least k h) (f.greatest k h)).1 }

-- the padded boxes of n rows, and that a step beyond each of their edges there is another
module _ (rows : List ℕ) (n m : ℕ) (bs : List PaddedBox) (x : min_xs bs ≡ edges rows BOX 1 false m) (y : min_ys bs ≡ edges rows BOX 2 false m)
    (x' : max_xs bs ≡ edges rows BOX 3 true m) (y' : max_ys bs ≡ edges rows BOX 4 true m) (l : length bs ≡ m) (q : m ≡ n) where
  pub padded-by : boxes_of bs ≡ padded_boxes rows n
  unfolding padded_boxes
  padded-by = rw (x, y, x', y', l, q)

  inside : (w : List ℕ) (field : ℕ) (high : Bool) → w ≡ edges rows BOX field high m → Fields rows BOX field n → Inside (length bs) w
  inside w field high e f = rw (l, e, q) (padded-inside n (edges rows BOX field high n) (edges-bounded rows BOX field high n f))

  pub bounded : Edged rows n → Bounded bs
  bounded f =
      record { min_x_inside = inside (min_xs bs) 1 false x f.least_x; min_y_inside = inside (min_ys bs) 2 false y f.least_y; max_x_inside = inside (max_xs bs) 3 true x' f.greatest_x; max_y_inside = inside (max_ys bs) 4 true y' f.greatest_y }
