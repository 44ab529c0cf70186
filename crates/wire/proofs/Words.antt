-- The rows of ends, word by word.
--     words-set     a row written
--     word-x ..     what stands in a row
use mathlib.Core.Path.{◌≡◌, refl, ap}
use mathlib.Core.Bool.{Bool, ◌&&◌}
use mathlib.Core.List.{List, ◌∷◌, []}
use Prim.Native.Nat.{ℕ, zero, suc, ◌+◌, ◌*◌, ◌<◌}
use native.Mathlib.Omega.{arith}
use lib.Dec.{eqb}
use lib.ListN.{length, get_or, set}
use Rattle.fixed.specs.Steps.{manhattan}
use Rattle.wire.specs.declared.types.End.{End}
use Rattle.wire.specs.Ends.{put_end, end_x_at, end_y_at, end_vertex, end_kind, stands, end_distance}
use Rattle.wire.specs.Lent.{words}

next : (i j : ℕ) → 4 * suc i + j ≡ suc (suc (suc (suc (4 * i + j))))
next i j = omega arith

four : (i : ℕ) → 4 * suc i ≡ suc (suc (suc (suc (4 * i))))
four i = omega arith

pub words-set : (es : List End) (i : ℕ) (e : End) → i < length es → words (set es i e) ≡ put_end (words es) i e.at.x e.at.y e.vertex e.letter
unfolding words put_end
words-set [] i e h = absurd (omega arith)
words-set (f ∷ es) zero e h = refl
words-set (f ∷ es) (suc i) e h =
    rw (next i 1, next i 2, next i 3, four i) (ap (λ (ws : List ℕ). f.at.x ∷ f.at.y ∷ f.vertex ∷ f.letter ∷ ws) (words-set es i e (omega arith)))

module _ (d : End) where
  pub word-x : (es : List End) (i : ℕ) → i < length es → (get_or es i d).at.x ≡ end_x_at (words es) i
  unfolding words
  word-x [] i h = absurd (omega arith)
  word-x (f ∷ es) zero h = refl
  word-x (f ∷ es) (suc i) h = rw (four i) (word-x es i (omega arith))

  pub word-y : (es : List End) (i : ℕ) → i < length es → (get_or es i d).at.y ≡ end_y_at (words es) i
  unfolding words
  word-y [] i h = absurd (omega arith)
  word-y (f ∷ es) zero h = refl
  word-y (f ∷ es) (suc i) h = rw (next i 1) (word-y es i (omega arith))

  pub word-vertex : (es : List End) (i : ℕ) → i < length es → (get_or es i d).vertex ≡ end_vertex (words es) i
  unfolding words
  word-vertex [] i h = absurd (omega arith)
  word-vertex (f ∷ es) zero h = refl
  word-vertex (f ∷ es) (suc i) h = rw (next i 2) (word-vertex es i (omega arith))

  pub word-kind : (es : List End) (i : ℕ) → i < length es → (get_or es i d).letter ≡ end_kind (words es) i
  unfolding words
  word-kind [] i h = absurd (omega arith)
  word-kind (f ∷ es) zero h = refl
  word-kind (f ∷ es) (suc i) h = rw (next i 3) (word-kind es i (omega arith))

-- whether the end i stands at the place
pub stands-there : (d : End) (es : List End) (i px py : ℕ) → i < length es → {b : Bool} → b ≡ eqb (get_or es i d).at.x px && eqb (get_or es i d).at.y py → b ≡ stands (words es) px py i
unfolding stands
stands-there d es i px py h e = rw (← word-x d es i h, ← word-y d es i h) e

pub distance-there : (d : End) (es : List End) (i px py : ℕ) → i < length es → {r : ℕ} → r ≡ manhattan (get_or es i d).at.x (get_or es i d).at.y px py → r ≡ end_distance (words es) px py i
unfolding end_distance
distance-there d es i px py h e = rw (← word-x d es i h, ← word-y d es i h) e
