-- One turn of each move, as an equation of the definitions of specs/Moves.
use Prim.Native.Nat.{ℕ, zero, suc, ◌+◌, ◌-◌, ◌*◌, ◌/◌, ◌%◌, ◌≤◌, ◌<◌}
use mathlib.Core.Path.{◌≡◌, refl, sym, ◌∙◌}
use mathlib.Core.Bool.{Bool, true, false, not, cond}
use mathlib.Core.List.{List}
use native.Mathlib.Numerals.{add-one}
use native.Mathlib.Omega.{arith}
use lib.Dec.{eqb}
use mathlib.Core.Bool.{cond}
use lib.IntN.{pos, neg_ℤ}
use lib.Signed.{mag}
use Rattle.fixed.specs.Track.{track}
use Rattle.vertex.specs.Pages.{rows, holder, joiner, Joined}
use Rattle.fixup.specs.Moves.{Places, places, start_at, line_move, corner_move, row_move, move, move_junctions, row_step, put_pair, move_pair, move_key, move_at, moves_to}
use lib.ListN.{length, get_or}
use borrow.Author.Tests.{eq-eqb, ne_eqb, not-true, not-false}

-- ---- one row

module _ (K J : List ℕ) (j i v : ℕ) (s : Places) where
  pub row_other : (holder J j ≡ v → ⊥) → (k : ℕ) → s ≡ row_step k K J j i v s
  unfolding row_step row_move
  row_other h k = rw (ne_eqb _ _ h)

  module _ (here : holder J j ≡ v) where
    module _ (line : get_or J (3 * j + 2) 0 ≡ 67 → ⊥) where
      pub row_line : i ≡ v → (t : Places) → t ≡ line_move s i (joiner J j) → (k : ℕ) → t ≡ row_step k K J j i v s
      unfolding row_step row_move
      row_line h t et k = rw (eq-eqb _ _ here, ne_eqb _ _ line, eq-eqb _ _ h) et

      pub row-line-not : (i ≡ v → ⊥) → (k : ℕ) → s ≡ row_step k K J j i v s
      unfolding row_step row_move
      row-line-not h k = rw (eq-eqb _ _ here, ne_eqb _ _ line, ne_eqb _ _ h)

    module _ (bend : get_or J (3 * j + 2) 0 ≡ 67) (w : Places) (ew : w ≡ corner_move K s v (joiner J j)) (r : Bool) (er : r ≡ not (start_at K (joiner J j - 1))) where
      pub row-start : r ≡ false → (k : ℕ) → w ≡ row_step k K J j i v s
      unfolding row_step row_move
      row-start f k = rw (eq-eqb _ _ here, eq-eqb _ _ bend, not-false _ (sym er ∙ f)) ew

      pub row_on : r ≡ true → (n : ℕ) → Joined n J → j < rows J → i ≤ v → (t u : Places)
          → ((k : ℕ) → n ≤ joiner J j - 1 + k → t ≡ move k K J (rows J) (joiner J j - 1) (joiner J j - 1) w)
          → ((k : ℕ) → n ≤ joiner J j - 1 + k → u ≡ move k K J (rows J) (joiner J j - 1) (joiner J j) t)
          → (k : ℕ) → n ≤ i + suc k → u ≡ row_step k K J j i v s
      unfolding row_step row_move
      row_on y n W l iv t u first second k h =
          let far = W.after j l in
          rw (eq-eqb _ _ here, eq-eqb _ _ bend, not-true _ (sym er ∙ y), ← ew, ← first k (omega arith)) (second k (omega arith))

-- ---- the loop over rows

module _ (n : ℕ) (K J : List ℕ) (i v : ℕ) (s : Places) where
  abbrev pub Moved : ℕ → Places → Type 0
  Moved j t = (k : ℕ) → n ≤ i + k → t ≡ move k K J j i v s

  pub move-none : Moved 0 s
  unfolding move
  move-none zero h = refl
  move-none (suc k) h = refl

  pub move-more : i < n → (j : ℕ) (t u : Places) → Moved j t → ((k : ℕ) → n ≤ i + suc k → u ≡ row_step k K J j i v t) → Moved (j + 1) u
  unfolding move row_step
  move-more inside j t u inv post zero h = absurd (omega arith)
  move-more inside j t u inv post (suc k) h = rw (add-one, ← inv (suc k) h) (post k h)

-- ---- a pair with its junctions

pub pair-done : (K J X Y : List ℕ) (vertical : Bool) (i c n : ℕ) (s t u : Places) → length s.x ≡ n → s ≡ cond vertical (places (put_pair X i c) Y) (places X (put_pair Y i c))
    → ((k : ℕ) → n ≤ i + k → t ≡ move k K J (rows J) i i s) → ((k : ℕ) → n ≤ i + k → u ≡ move k K J (rows J) i (i + 1) t) → u ≡ move_pair vertical K J (places X Y) i c
unfolding move_pair move_junctions
pair-done K J X Y vertical i c n s t u en es first second = rw (← es, ← first (length s.x) (omega arith)) (second (length s.x) (omega arith))

-- ---- the offset of a track is small

mag-neg : (n : ℕ) → mag (neg_ℤ (pos n)) ≤ n
mag-neg zero = omega arith
mag-neg (suc n) = omega arith

cond-mag : (b : Bool) (n m k : ℕ) → n ≤ k → m ≤ k → mag (cond b (neg_ℤ (pos n)) (pos m)) ≤ k
cond-mag true n m k h g = omega (arith, mag-neg n)
cond-mag false n m k h g = g

pub track-mag : (t : ℕ) → t < 512 → mag (track t) ≤ 327680
unfolding track
track-mag t h = cond-mag (eqb (t % 2) 0) (t / 2 * 1280) ((t + 1) / 2 * 1280) 327680 (omega arith) (omega arith)

pub shift_fits : (a t : ℕ) → t < 512 → 1073741824 ≤ a → a ≤ 3221225472 → (mag (track t) < a) × (a + mag (track t) < 4294967296)
shift_fits a t h lo hi = (omega (arith, track-mag t h), omega (arith, track-mag t h))

-- ---- the moves in order

pub moves-none : (b : Bool) (K J keys ts : List ℕ) (s : Places) → s ≡ moves_to b K J keys ts 0 s
unfolding moves_to
moves-none b K J keys ts s = refl

pub moves_more : (b : Bool) (K J keys ts : List ℕ) (k : ℕ) (s t u : Places) → t ≡ moves_to b K J keys ts k s → (key n : ℕ) → key ≡ get_or keys k 0 → n ≡ get_or ts k 0
    → u ≡ move_key b K J key n t → u ≡ moves_to b K J keys ts (k + 1) s
unfolding moves_to move_at
moves_more b K J keys ts k s t u et key n ek en eu = eu ∙ rw (add-one, ← ek, ← en, et)
