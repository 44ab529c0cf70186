-- 01, 'Cases at the edges'.
use Rattle.std.specs.Prelude.{◌≡◌, List, [], ◌∷◌, ℕ, ◌+◌, ◌-◌, ◌*◌, length, ℤ, pos, negsuc}
use Rattle.fixed.specs.Constants.{UNIT, PADDING}
use Rattle.fixed.specs.Up.{BIAS, down}
use Rattle.corridors.specs.Sizes.{X, Y}
use Rattle.corridors.specs.Grid.{boxes}
use Rattle.corridors.specs.Merge.{Anchors, anchors, directions}

-- coordinates as signed steps
unfoldable pub downs : List ℕ → List ℤ
downs [] = []
downs (u ∷ l) = down u ∷ downs l

-- a padded edge, of a coordinate in units: counted from −2^31, less or more the padding
abbrev pub least : ℕ → ℕ
least u = BIAS + u * UNIT - PADDING

abbrev pub greatest : ℕ → ℕ
greatest u = BIAS + u * UNIT + PADDING

-- *boxes (0,0)-(20,20) and (100,0)-(120,20)
unfoldable pub two_boxes : Anchors
two_boxes =
    anchors (record { count = 2; from = least 0 ∷ least 100 ∷ []; to = greatest 20 ∷ greatest 120 ∷ []; low = least 0 ∷ least 0 ∷ []; high = greatest 20 ∷ greatest 20 ∷ [] })

-- 'implicit anchors, in steps, (7681,2560), (23039,2560), (15360,−2559), (15360,7679)'
pub record TwoBoxes : Type 0 where
  pub xs : downs two_boxes.xs ≡ pos 7681 ∷ pos 23039 ∷ pos 15360 ∷ pos 15360 ∷ []
  pub ys : downs two_boxes.ys ≡ pos 2560 ∷ pos 2560 ∷ negsuc 2558 ∷ pos 7679 ∷ []
  pub ways : directions two_boxes.level (length two_boxes.xs) ≡ X ∷ X ∷ Y ∷ Y ∷ []

-- three boxes, their padded edges in steps: the column from 20 to 40 takes its run from 0 to 20 out of the next column, whose last run, from 50 to 60, fills the hole; so
-- the anchors of that run come before those of the run from 30 to 40
unfoldable pub holes : Anchors
holes =
    anchors (boxes 3 (pos 40 ∷ pos 20 ∷ pos 10 ∷ []) (pos 80 ∷ pos 80 ∷ pos 20 ∷ []) (pos 40 ∷ pos 20 ∷ pos 0 ∷ []) (pos 50 ∷ pos 30 ∷ pos 60 ∷ []))

pub record Holes : Type 0 where
  pub xs : downs holes.xs ≡ pos 21 ∷ pos 79 ∷ pos 21 ∷ pos 79 ∷ pos 21 ∷ pos 39 ∷ pos 21 ∷ pos 79 ∷ pos 50 ∷ pos 50 ∷ pos 30 ∷ pos 30 ∷ pos 60 ∷ pos 60 ∷ pos 60 ∷ pos 60 ∷ []
  pub ys : downs holes.ys ≡ pos 10 ∷ pos 10 ∷ pos 35 ∷ pos 35 ∷ pos 45 ∷ pos 45 ∷ pos 55 ∷ pos 55 ∷ pos 1 ∷ pos 19 ∷ pos 31 ∷ pos 59 ∷ pos 51 ∷ pos 59 ∷ pos 31 ∷ pos 39 ∷ []
  pub level : holes.level ≡ 8
