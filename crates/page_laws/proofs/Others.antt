-- How many endpoints are not of the root pair: two less than all of them.
use mathlib.Core.Path.{◌≡◌, refl, sym, ◌∙◌}
use mathlib.Core.Bool.{Bool, true, false, cond, ◌||◌}
use Prim.Native.Nat.{ℕ, zero, suc, ◌+◌, ◌<◌, ◌≤◌}
use native.Mathlib.Decide.{ℕ_discrete}
use native.Mathlib.Omega.{arith}
use borrow.Author.Tests.{eq-eqb}
use lib.Dec.{eqb}

-- of the first k endpoints those that are neither a nor b
abbrev pub others : ℕ → ℕ → ℕ → ℕ
others a b zero = 0
others a b (suc k) = cond (eqb k a || eqb k b) (others a b k) (others a b k + 1)

or-true : (t : Bool) → (t || true) ≡ true
or-true true = refl
or-true false = refl

module _ (a b : ℕ) where
  pub others-up : (k : ℕ) → others a b k ≤ others a b (suc k)
  others-up k = by (eqb k a || eqb k b)
    where
      by : (t : Bool) → others a b k ≤ cond t (others a b k) (others a b k + 1)
      by true = omega arith
      by false = omega arith

  step : (k : ℕ) → others a b (suc k) ≤ others a b k + 1
  step k = by (eqb k a || eqb k b)
    where
      by : (t : Bool) → cond t (others a b k) (others a b k + 1) ≤ others a b k + 1
      by true = omega arith
      by false = omega arith

  is-a : (k : ℕ) → k ≡ a → others a b (suc k) ≡ others a b k
  is-a k e = rw (eq-eqb k a e)

  is_b : (k : ℕ) → k ≡ b → others a b (suc k) ≡ others a b k
  is_b k e = rw (eq-eqb k b e, or-true (eqb k a))

  pub others-le : (k : ℕ) → others a b k ≤ k
  others-le zero = omega arith
  others-le (suc k) = omega (arith, step k, others-le k)

  past-a : (k : ℕ) → a < k → others a b k + 1 ≤ k
  past-a zero h = absurd (omega arith)
  past-a (suc k) h = by (ℕ_discrete k a) (past-a k)
    where
      by : Dec (k ≡ a) → (a < k → others a b k + 1 ≤ k) → others a b (suc k) + 1 ≤ suc k
      by (yes e) on = omega (arith, is-a k e, others-le k)
      by (no e) on = omega (arith, step k, on (omega arith))

  past-b : (k : ℕ) → b < k → others a b k + 1 ≤ k
  past-b zero h = absurd (omega arith)
  past-b (suc k) h = by (ℕ_discrete k b) (past-b k)
    where
      by : Dec (k ≡ b) → (b < k → others a b k + 1 ≤ k) → others a b (suc k) + 1 ≤ suc k
      by (yes e) on = omega (arith, is_b k e, others-le k)
      by (no e) on = omega (arith, step k, on (omega arith))

  pub others-two : (k : ℕ) → a < k → b < k → (a ≡ b → ⊥) → others a b k + 2 ≤ k
  others-two zero h g ne = absurd (omega arith)
  others-two (suc k) h g ne = by (ℕ_discrete k a) (ℕ_discrete k b) (λ p q. others-two k p q ne)
    where
      by : Dec (k ≡ a) → Dec (k ≡ b) → (a < k → b < k → others a b k + 2 ≤ k) → others a b (suc k) + 2 ≤ suc k
      by (yes e) (yes f) on = absurd (ne (sym e ∙ f))
      by (yes e) (no f) on = omega (arith, is-a k e, past-b k (omega arith))
      by (no e) (yes f) on = omega (arith, is_b k f, past-a k (omega arith))
      by (no e) (no f) on = omega (arith, step k, on (omega arith) (omega arith))
