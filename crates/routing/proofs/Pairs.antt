-- The pairs of n endpoints as numbers below n * n, and one turn of the loop over them.
use mathlib.Core.Path.{◌≡◌, refl}
use mathlib.Core.Bool.{Bool, true, false, cond}
use mathlib.Core.List.{List}
use Prim.Native.Nat.{ℕ, zero, suc, ◌+◌, ◌*◌, ◌/◌, ◌%◌, ◌<◌, ◌≤◌}
use native.Mathlib.Nat.{mul-le-mul, div-lt_iff_lt-mul, mod-lt}
use native.Mathlib.Numerals.{add-one}
use native.Mathlib.Decide.{ℕ_discrete}
use native.Mathlib.Omega.{arith}
use borrow.Author.Tests.{lt-ltb, le-ltb, ltb-true, ltb-false}
use lib.Dec.{ltb}
use Rattle.routing.specs.Roots.{slant_of, root_to, root_pair}

pub square-least : (n : ℕ) → 2 ≤ n → 4 ≤ n * n
square-least n h = mul-le-mul h h

pub first-in : (n p : ℕ) → 0 < n → p < n * n → p / n < n
first-in n p h k = (div-lt_iff_lt-mul h).1 k

pub second-in : (n p : ℕ) → 0 < n → p % n < n
second-in n p h = mod-lt p h

pub root_none : (xs ys : List ℕ) (n : ℕ) → 1 ≡ root_to xs ys n 0
unfolding root_to
root_none xs ys n = refl

module _ (xs ys : List ℕ) (n p best : ℕ) (same : best ≡ root_to xs ys n p) (a b : ℕ) (ea : a ≡ slant_of xs ys n best) (eb : b ≡ slant_of xs ys n p) where
  pub root-take : a < b → p ≡ root_to xs ys n (p + 1)
  unfolding root_to
  root-take h = rw (add-one, ← same, ← ea, ← eb, lt-ltb _ _ h)

  pub root-keep : b ≤ a → best ≡ root_to xs ys n (p + 1)
  unfolding root_to
  root-keep h = rw (add-one, ← same, ← ea, ← eb, le-ltb _ _ h)

pub root-done : (xs ys : List ℕ) (n p best : ℕ) → p ≡ n * n → best ≡ root_to xs ys n p → best ≡ root_pair xs ys n
unfolding root_pair
root-done xs ys n p best e h = rw (← e) h

-- no pair is greater than the root pair
pub root-greatest : (xs ys : List ℕ) (n k p : ℕ) → p < k → slant_of xs ys n p ≤ slant_of xs ys n (root_to xs ys n k)
unfolding root_to
root-greatest xs ys n zero p h = absurd (omega arith)
root-greatest xs ys n (suc k) p h =
    by (ℕ_discrete p k) (λ l. root-greatest xs ys n k p l) (ltb (slant_of xs ys n (root_to xs ys n k)) (slant_of xs ys n k)) refl
  where
    by : Dec (p ≡ k) → (p < k → slant_of xs ys n p ≤ slant_of xs ys n (root_to xs ys n k)) → (b : Bool) → ltb (slant_of xs ys n (root_to xs ys n k)) (slant_of xs ys n k) ≡ b
        → slant_of xs ys n p ≤ slant_of xs ys n (cond b k (root_to xs ys n k))
    by (yes e) on true t = rw e (omega arith)
    by (yes e) on false t = rw e (ltb-false _ _ t)
    by (no e) on true t = omega (arith, on (omega arith), ltb-true (slant_of xs ys n (root_to xs ys n k)) (slant_of xs ys n k) t)
    by (no e) on false t = on (omega arith)
