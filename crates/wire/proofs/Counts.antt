-- One turn of the loop that counts a line's vertices.
use mathlib.Core.Path.{◌≡◌, refl}
use mathlib.Core.Bool.{Bool, true, false, cond}
use mathlib.Core.List.{List}
use Prim.Native.Nat.{ℕ, zero, suc, ◌+◌, ◌-◌, ◌<◌, ◌≤◌}
use native.Mathlib.Numerals.{add-one}
use native.Mathlib.Omega.{arith}
use native.Mathlib.Nat.{le_refl}
use Rattle.wire.specs.Lines.{straight, kept}

pub kept-le : (kinds ways : List ℕ) (k : ℕ) → kept kinds ways k ≤ k
unfolding kept
kept-le kinds ways zero = omega arith
kept-le kinds ways (suc k) = by (straight kinds ways (suc k)) (kept-le kinds ways k)
  where
    by : (b : Bool) → kept kinds ways k ≤ k → cond b (kept kinds ways k) (kept kinds ways k + 1) ≤ suc k
    by true h = omega arith
    by false h = omega arith

module _ (kinds ways : List ℕ) (i : ℕ) (0<i : 0 < i) (b : Bool) (q : b ≡ straight kinds ways i) where
  split : (k : ℕ) → i - 1 ≡ k → i ≡ suc k
  split k e = omega arith

  pub kept_on : b ≡ true → kept kinds ways (i + 1 - 1) ≡ kept kinds ways (i - 1)
  unfolding kept
  kept_on t =
      let e : i + 1 - 1 ≡ suc (i - 1) = omega arith in
      let f : suc (i - 1) ≡ i = omega arith in
      let g : straight kinds ways (suc (i - 1)) ≡ true = rw (f, ← q) t in
      rw (e, g)

  pub kept_more : b ≡ false → kept kinds ways (i + 1 - 1) ≡ kept kinds ways (i - 1) + 1
  unfolding kept
  kept_more t =
      let e : i + 1 - 1 ≡ suc (i - 1) = omega arith in
      let f : suc (i - 1) ≡ i = omega arith in
      let g : straight kinds ways (suc (i - 1)) ≡ false = rw (f, ← q) t in
      rw (e, g)

pub kept-none : (kinds ways : List ℕ) → 3 ≡ 3 + kept kinds ways (1 - 1)
unfolding kept
kept-none kinds ways = refl

kept_step : (kinds ways : List ℕ) (k : ℕ) → kept kinds ways k ≤ kept kinds ways (suc k)
unfolding kept
kept_step kinds ways k = by (straight kinds ways (suc k))
  where
    by : (b : Bool) → kept kinds ways k ≤ cond b (kept kinds ways k) (kept kinds ways k + 1)
    by true = omega arith
    by false = omega arith

pub kept-up : (kinds ways : List ℕ) (k d : ℕ) → kept kinds ways k ≤ kept kinds ways (d + k)
kept-up kinds ways k zero = let e : 0 + k ≡ k = omega arith in rw e (le_refl _)
kept-up kinds ways k (suc d) = let e : suc d + k ≡ suc (d + k) = omega arith in rw e (omega (arith, kept-up kinds ways k d, kept_step kinds ways (d + k)))

-- the node behind the first k + 1 has room, if the whole line has
pub kept-room : (kinds ways : List ℕ) (count k : ℕ) → k + 1 < count → straight kinds ways (k + 1) ≡ false → kept kinds ways k + 1 ≤ kept kinds ways (count - 1)
unfolding kept
kept-room kinds ways count k h t =
    let e : count - 1 ≡ (count - 1 - suc k) + suc k = omega arith in
    let s : straight kinds ways (suc k) ≡ false = rw (add-one) at t in
    let g : kept kinds ways (suc k) ≡ kept kinds ways k + 1 = rw s in
    rw e (omega (arith, kept-up kinds ways (suc k) (count - 1 - suc k), g))

-- the same of the node i
pub kept-room-at : (kinds ways : List ℕ) (count i : ℕ) → 0 < i → i < count → straight kinds ways i ≡ false → kept kinds ways (i - 1) + 1 ≤ kept kinds ways (count - 1)
kept-room-at kinds ways count i p h t =
    let e : i - 1 + 1 ≡ i = omega arith in
    kept-room kinds ways count (i - 1) (omega arith) (rw e t)
