-- The nearest edge of some of the boxes, while they are asked one after another.
use Rattle.std.specs.Prelude.{◌≡◌, Bool, true, false, ◌&&◌, ℕ, ◌<◌, ◌≤◌, leb}
use Rattle.sightline.specs.Count.{any}
use Rattle.sightline.specs.Sight.{Line, box_stops}
use Rattle.sightline.specs.Bound.{far}

-- whether the box i stops the way between the anchor and x
unfoldable pub stop : Line → ℕ → Bool → ℕ → ℕ → Bool
stop l a true x i = box_stops l a x i
stop l a false x i = box_stops l x a i

-- x is at the edge or beyond it
abbrev pub past : Bool → ℕ → ℕ → Bool
past true edge x = leb edge x
past false edge x = leb x edge

-- the edge of the first i boxes: they stop the way to what is past it
pub record Near (l : Line) (a : ℕ) (ahead found : Bool) (edge i : ℕ) : Type 0 where
  pub same : (x : ℕ) → (found && past ahead edge x) ≡ any (stop l a ahead x) i
  pub none : found ≡ false → edge ≡ far ahead
  pub fits : edge ≤ 4294967295

-- the ignored box is none of those from p on and before q
pub record Others (ignore p q : ℕ) : Type 0 where
  pub apart : (i : ℕ) → p ≤ i → i < q → (i ≡ ignore → ⊥)
