-- A junction takes the first end at the place, and a fallback the first at the least distance.
use mathlib.Core.Path.{◌≡◌, refl}
use mathlib.Core.Bool.{Bool, true, false, cond}
use mathlib.Core.List.{List}
use Prim.Native.Nat.{ℕ, zero, suc, ◌+◌, ◌-◌, ◌<◌, ◌≤◌}
use native.Mathlib.Decide.{ℕ_discrete}
use native.Mathlib.Omega.{arith}
use borrow.Author.Tests.{ltb-true, ltb-false}
use lib.Dec.{ltb}
use Rattle.fixed.proofs.Bools.{clash}
use Rattle.wire.specs.Ends.{stands, first_from, junction_end, end_distance, nearest_end}
use Rattle.net_laws.specs.Choices.{FirstAt, Nearest}

module _ (E : List ℕ) (px py : ℕ) where
  -- of the k ends from i on, and the one behind them
  record From (i e : ℕ) : Type 0 where
    here : stands E px py e ≡ true
    none_before : (j : ℕ) → i ≤ j → j < e → stands E px py j ≡ false

  first-from : (k i j : ℕ) → i ≤ j → j ≤ i + k → stands E px py j ≡ true → From i (first_from k E px py i)
  unfolding first_from
  first-from zero i j a b s =
      let e : j ≡ i = omega arith in
      record { here = rw e at s; none_before = λ j p q. absurd (omega arith) }
  first-from (suc k) i j a b s = by (stands E px py i) refl (ℕ_discrete i j) (λ l. first-from k (i + 1) j l (omega arith) s)
    where
      by : (t : Bool) → stands E px py i ≡ t → Dec (i ≡ j) → (i + 1 ≤ j → From (i + 1) (first_from k E px py (i + 1))) → From i (cond t i (first_from k E px py (i + 1)))
      by true e d on = record { here = e; none_before = λ l p q. absurd (omega arith) }
      by false e (yes f) on = absurd (clash s (rw f at e))
      by false e (no f) on =
          let r = on (omega arith) in
          record { here = r.here; none_before = λ l p q. before l p q (ℕ_discrete i l) r }
        where
          before : (l : ℕ) → i ≤ l → l < first_from k E px py (i + 1) → Dec (i ≡ l) → From (i + 1) (first_from k E px py (i + 1)) → stands E px py l ≡ false
          before l p q (yes g) r = rw (← g) e
          before l p q (no g) r = r.none_before l (omega arith) q

  -- of m ends one of which stands at the place
  pub junction-first : (m i : ℕ) → i < m → stands E px py i ≡ true → FirstAt E px py (junction_end E m px py)
  unfolding junction_end
  junction-first m i h s =
      let r = first-from (m - 1) 0 i (omega arith) (omega arith) s in
      record { here = r.here; none_before = λ j l. r.none_before j (omega arith) l }

  nearer : (m best : ℕ) → Nearest E px py m best → (b : Bool) → ltb (end_distance E px py m) (end_distance E px py best) ≡ b → Nearest E px py (suc m) (cond b m best)
  nearer m best N true t =
      let l = ltb-true (end_distance E px py m) (end_distance E px py best) t in
      record { one = omega arith; least = λ i h. below i h (ℕ_discrete i m); first = λ i h. omega (arith, N.least i h) }
    where
      below : (i : ℕ) → i < suc m → Dec (i ≡ m) → end_distance E px py m ≤ end_distance E px py i
      below i h (yes e) = rw e (omega arith)
      below i h (no e) = omega (arith, N.least i (omega arith), ltb-true (end_distance E px py m) (end_distance E px py best) t)
  nearer m best N false t =
      record { one = omega (arith, N.one); least = λ i h. below i h (ℕ_discrete i m); first = N.first }
    where
      below : (i : ℕ) → i < suc m → Dec (i ≡ m) → end_distance E px py best ≤ end_distance E px py i
      below i h (yes e) = rw e (ltb-false (end_distance E px py m) (end_distance E px py best) t)
      below i h (no e) = N.least i (omega arith)

  pub nearest-first : (m : ℕ) → 0 < m → Nearest E px py m (nearest_end E px py m)
  unfolding nearest_end
  nearest-first zero h = absurd (omega arith)
  nearest-first (suc zero) h = by (ltb (end_distance E px py 0) (end_distance E px py 0))
    where
      only : (i : ℕ) → i < 1 → end_distance E px py 0 ≤ end_distance E px py i
      only i k = let e : i ≡ 0 = omega arith in rw e (omega arith)

      by : (b : Bool) → Nearest E px py 1 (cond b 0 0)
      by true = record { one = omega arith; least = only; first = λ i k. absurd (omega arith) }
      by false = record { one = omega arith; least = only; first = λ i k. absurd (omega arith) }
  nearest-first (suc (suc m)) h =
      nearer (suc m) (nearest_end E px py (suc m)) (nearest-first (suc m) (omega arith)) (ltb (end_distance E px py (suc m)) (end_distance E px py (nearest_end E px py (suc m)))) refl
