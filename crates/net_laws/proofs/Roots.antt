-- The root pair is the first with the greatest size, and a pair of two endpoints.
use mathlib.Core.Path.{◌≡◌, refl, sym, ◌∙◌}
use mathlib.Core.Bool.{Bool, true, false, cond}
use mathlib.Core.List.{List}
use Prim.Native.Nat.{ℕ, zero, suc, ◌*◌, ◌/◌, ◌%◌, ◌<◌, ◌≤◌}
use native.Mathlib.Decide.{ℕ_discrete}
use native.Mathlib.Nat.{div-eq_of_lt, mod-eq_of_lt}
use native.Mathlib.Omega.{arith}
use borrow.Author.Tests.{ltb-true}
use lib.Dec.{ltb}
use Rattle.routing.specs.Roots.{slant, slant_of, root_to, root_pair}
use Rattle.routing.proofs.Pairs.{square-least, first-in, second-in, root-greatest}
use Rattle.net_laws.specs.Roots.{Root}

module _ (xs ys : List ℕ) (n : ℕ) where
  -- an endpoint with itself has size 0
  slant-self : (p : ℕ) → p / n ≡ p % n → slant_of xs ys n p ≡ 0
  unfolding slant_of slant
  slant-self p e = rw e (omega arith)

  root-first : (k q : ℕ) → 0 < q → q < root_to xs ys n k → slant_of xs ys n q < slant_of xs ys n (root_to xs ys n k)
  unfolding root_to
  root-first zero q h l = absurd (omega arith)
  root-first (suc k) q h l = by (ltb (slant_of xs ys n (root_to xs ys n k)) (slant_of xs ys n k)) refl (root-first k q h) l
    where
      by : (b : Bool) → ltb (slant_of xs ys n (root_to xs ys n k)) (slant_of xs ys n k) ≡ b → (q < root_to xs ys n k → slant_of xs ys n q < slant_of xs ys n (root_to xs ys n k))
          → q < cond b k (root_to xs ys n k) → slant_of xs ys n q < slant_of xs ys n (cond b k (root_to xs ys n k))
      by true t on l = omega (arith, root-greatest xs ys n k q l, ltb-true (slant_of xs ys n (root_to xs ys n k)) (slant_of xs ys n k) t)
      by false t on l = on l

  root-some : (k : ℕ) → 0 < n → 0 < root_to xs ys n k
  unfolding root_to
  root-some zero h = omega arith
  root-some (suc k) h = by (ltb (slant_of xs ys n (root_to xs ys n k)) (slant_of xs ys n k)) refl (root-some k h) (ℕ_discrete k 0)
    where
      by : (b : Bool) → ltb (slant_of xs ys n (root_to xs ys n k)) (slant_of xs ys n k) ≡ b → 0 < root_to xs ys n k → Dec (k ≡ 0) → 0 < cond b k (root_to xs ys n k)
      by true t on (no e) = omega arith
      by true t on (yes e) =
          let z : slant_of xs ys n k ≡ 0 = rw e (slant-self 0 (div-eq_of_lt h ∙ sym (mod-eq_of_lt h))) in
          absurd (omega (arith, ltb-true (slant_of xs ys n (root_to xs ys n k)) (slant_of xs ys n k) t))
      by false t on d = on

  root_in : (k : ℕ) → 2 ≤ k → root_to xs ys n k < k
  unfolding root_to
  root_in zero h = absurd (omega arith)
  root_in (suc k) h = by (ltb (slant_of xs ys n (root_to xs ys n k)) (slant_of xs ys n k)) (ℕ_discrete k 1) (root_in k)
    where
      by : (b : Bool) → Dec (k ≡ 1) → (2 ≤ k → root_to xs ys n k < k) → cond b k (root_to xs ys n k) < suc k
      by true d on = omega arith
      by false (yes e) on = rw e (one (ltb (slant_of xs ys n 1) (slant_of xs ys n 0)))
        where
          one : (b : Bool) → cond b 0 1 < 2
          one true = omega arith
          one false = omega arith
      by false (no e) on = omega (arith, on (omega arith))

  pub root : 2 ≤ n → Root xs ys n (root_pair xs ys n)
  unfolding root_pair
  root h =
      let sq = square-least n h in
      let p = root_to xs ys n (n * n) in
      let l : p < n * n = root_in (n * n) (omega arith) in
      record {
        inside = l;
        first_member = first-in n p (omega arith) l;
        second_member = second-in n p (omega arith);
        two = λ e. two e (ℕ_discrete p 1);
        greatest = λ q k. root-greatest xs ys n (n * n) q k;
        first = λ q a b. root-first (n * n) q a b;
      }
    where
      two : root_to xs ys n (n * n) / n ≡ root_to xs ys n (n * n) % n → Dec (root_to xs ys n (n * n) ≡ 1) → ⊥
      two e (yes o) =
          let a : 1 / n ≡ 0 = div-eq_of_lt (omega arith) in
          let b : 1 % n ≡ 1 = mod-eq_of_lt (omega arith) in
          let f : 1 / n ≡ 1 % n = rw o at e in
          omega arith
      two e (no o) =
          let z = slant-self (root_to xs ys n (n * n)) e in
          omega (arith, root-first (n * n) 1 (omega arith) (omega (arith, root-some (n * n) (omega arith))))
