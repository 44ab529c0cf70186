-- What `generate_implicit_anchors` asks of the boxes, and what it leaves in the list of anchors.
use Rattle.std.specs.Prelude.{◌≡◌, List, ℕ, ◌<◌, ◌≤◌, length, get_or, take, drop, replicate, Option, None, Some}
use Rattle.fixed.specs.declared.PaddedBox.{PaddedBox}
use Rattle.fixed.specs.declared.Anchor.{Anchor}
use Rattle.fixed.specs.Boxes.{min_xs, min_ys, max_xs, max_ys, anchor_xs, anchor_ys, directions_of, ignored_of}
use Rattle.corridors.specs.Sizes.{ANCHORS, NONE}
use Rattle.corridors.specs.Merge.{Anchors, directions}

-- ---- what is asked of the boxes

-- a step beyond each of the first n coordinates there is another
pub record Inside (n : ℕ) (l : List ℕ) : Type 0 where
  pub inside : (k : ℕ) → k < n → get_or l k 0 < 4294967295

-- the same of the boxes' edges
pub record Bounded (bs : List PaddedBox) : Type 0 where
  pub min_x_inside : Inside (length bs) (min_xs bs)
  pub min_y_inside : Inside (length bs) (min_ys bs)
  pub max_x_inside : Inside (length bs) (max_xs bs)
  pub max_y_inside : Inside (length bs) (max_ys bs)

-- ---- the answer

-- the first k anchors of s are those of a, and ignore no box
pub record Given (k : ℕ) (s : List Anchor) (a : Anchors) : Type 0 where
  pub few : k ≤ ANCHORS
  pub count : k ≡ length a.xs
  pub place_x : anchor_xs (take k s) ≡ a.xs
  pub place_y : anchor_ys (take k s) ≡ a.ys
  pub directed : directions_of (take k s) ≡ directions a.level k
  pub free : ignored_of (take k s) ≡ replicate k NONE

-- 01, 'Limits': over 2,048 implicit anchors the page is crowded, and there is no answer; else the first ones of the list s
abbrev pub Answered : Option ℕ → List Anchor → Anchors → Type 0
Answered None s a = ANCHORS < length a.xs
Answered (Some k) s a = Given k s a

-- what stands behind the k anchors of an answer stays, from s to t
abbrev pub Kept : Option ℕ → List Anchor → List Anchor → Type 0
Kept o s t = (k : ℕ) → o ≡ Some k → drop k t ≡ drop k s
