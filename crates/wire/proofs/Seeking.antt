-- One turn of each loop over the ends, as an equation of the definitions.
use mathlib.Core.Path.{◌≡◌, refl}
use mathlib.Core.Bool.{Bool, true, false}
use mathlib.Core.List.{List}
use Prim.Native.Nat.{ℕ, zero, suc, ◌+◌, ◌-◌, ◌<◌, ◌≤◌}
use native.Mathlib.Numerals.{add-one}
use native.Mathlib.Omega.{arith}
use borrow.Author.Tests.{lt-ltb, le-ltb}
use Rattle.wire.specs.Ends.{stands, first_from, junction_end, end_distance, nearest_end}

module _ (E : List ℕ) (m px py i : ℕ) where
  turns : (k : ℕ) → i < m → m - i ≡ k → (b : Bool) → b ≡ stands E px py i → first_from (m - i) E px py i ≡ first_from m E px py 0
      → (b ≡ true → i ≡ first_from m E px py 0) × (b ≡ false → first_from (m - (i + 1)) E px py (i + 1) ≡ first_from m E px py 0)
  unfolding first_from
  turns zero h e b q s = absurd (omega arith)
  turns (suc k) h e b q s =
      let d : m - (i + 1) ≡ k = omega arith in
      ((λ t. rw (e, ← q, t) at s), (λ t. rw d (rw (e, ← q, t) at s)))

  pub first-begin : first_from (m - 0) E px py 0 ≡ first_from m E px py 0
  first-begin = let d : m - 0 ≡ m = omega arith in rw d

  pub first-here : i < m → (b : Bool) → b ≡ stands E px py i → b ≡ true → first_from (m - i) E px py i ≡ first_from m E px py 0 → i ≡ first_from m E px py 0
  first-here h b q t s = (turns (m - i) h refl b q s).0 t

  pub first_on : i < m → (b : Bool) → b ≡ stands E px py i → b ≡ false → first_from (m - i) E px py i ≡ first_from m E px py 0
      → first_from (m - (i + 1)) E px py (i + 1) ≡ first_from m E px py 0
  first_on h b q t s = (turns (m - i) h refl b q s).1 t

  pub first-none : m ≤ i → first_from (m - i) E px py i ≡ first_from m E px py 0 → i ≡ first_from m E px py 0
  unfolding first_from
  first-none h s = let d : m - i ≡ 0 = omega arith in rw d at s

pub first_is : (E : List ℕ) (m l px py i : ℕ) → l ≡ m - 1 → i ≡ first_from l E px py 0 → i ≡ junction_end E m px py
unfolding junction_end
first_is E m l px py i e h = rw (← e) h

module _ (E : List ℕ) (px py i best : ℕ) (same : best ≡ nearest_end E px py i) (a b : ℕ) (ea : a ≡ end_distance E px py i) (eb : b ≡ end_distance E px py best) where
  pub nearest-take : a < b → i ≡ nearest_end E px py (i + 1)
  unfolding nearest_end
  nearest-take h = rw (add-one, ← same, ← ea, ← eb, lt-ltb _ _ h)

  pub nearest-keep : b ≤ a → best ≡ nearest_end E px py (i + 1)
  unfolding nearest_end
  nearest-keep h = rw (add-one, ← same, ← ea, ← eb, le-ltb _ _ h)

pub nearest_zero : (E : List ℕ) (px py : ℕ) → 0 ≡ nearest_end E px py 0
unfolding nearest_end
nearest_zero E px py = refl
