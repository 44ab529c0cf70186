-- The empty runs of a row, cell by cell, and of all rows.
use Rattle.std.proofs.Common.{◌≡◌, refl, sym, ap, ◌∙◌, Bool, true, false, cond, ◌<◌, ◌≤◌, ℕ, zero, suc, ◌+◌, ◌-◌, ◌%◌, List, [], ◌∷◌, ◌++◌, length, get_or, take, set, arith, add-one}
use Rattle.std.proofs.lemmas.List.{length-set, length-append, map-set, take_more_set, take_all, length-map}
use borrow.Author.Tests.{lt-ltb, eq-eqb}
use lib.Seq.{get_or-append_seam}
use Rattle.fixed.proofs.Bools.{clash}
use Rattle.corridors.specs.declared.row.Row.{Row}
use Rattle.corridors.specs.Sizes.{RUNS, SPAN}
use Rattle.corridors.specs.Grid.{Boxes, cells, last, ends_at, add_cell, row_runs, all_runs}
use Rattle.corridors.specs.Lent.{listed, row, table}
use Rattle.corridors.proofs.Rows.{row-length}

-- ---- at most one run for two cells

record Spaced (l : List ℕ) (m : ℕ) : Type 0 where
  wide : length l + length l ≤ m + 1
  tight : ends_at l m ≡ false → length l + length l ≤ m

new-ends : (l : List ℕ) (m : ℕ) → m < 128 → ends_at (l ++ (cells m (m + 1) ∷ [])) (suc m) ≡ true
unfolding ends_at last
new-ends l m h =
    let n : length (l ++ (cells m (m + 1) ∷ [])) ≡ length l + 1 = length-append l (cells m (m + 1) ∷ []) in
    let q : length l + 1 - 1 ≡ length l = omega arith in
    rw (n, lt-ltb 0 (length l + 1) (omega arith), q, get_or-append_seam l (cells m (m + 1)) [] 0) (eq-eqb (cells m (m + 1) % SPAN) (suc m) (omega arith))

cell-spaced : (l : List ℕ) (m : ℕ) (t u : Bool) → ends_at l m ≡ u → Spaced l m → m < 128 → Spaced (cond t l (cond u (set l (length l - 1) (last l + 1)) (l ++ (cells m (m + 1) ∷ [])))) (suc m)
cell-spaced l m true u e s h = record { wide = omega (arith, s.wide); tight = λ z. omega (arith, s.wide) }
cell-spaced l m false true e s h =
    let n = length-set l (length l - 1) (last l + 1) in
    record { wide = omega (arith, n, s.wide); tight = λ z. omega (arith, n, s.wide) }
cell-spaced l m false false e s h =
    let n : length (l ++ (cells m (m + 1) ∷ [])) ≡ length l + 1 = length-append l (cells m (m + 1) ∷ []) in
    record { wide = omega (arith, n, s.tight e); tight = λ z. absurd (clash (new-ends l m h) z) }

listed-spaced : (w : List Bool) (m : ℕ) → m ≤ 128 → Spaced (listed w m) m
unfolding listed add_cell
listed-spaced w zero h = record { wide = omega arith; tight = λ z. omega arith }
listed-spaced w (suc m) h =
    cell-spaced (listed w m) m (get_or w m false) (ends_at (listed w m) m) refl (listed-spaced w m (omega arith)) (omega arith)

pub listed-none : (w : List Bool) → [] ≡ listed w 0
unfolding listed
listed-none w = refl

-- there is room for one more run
pub listed-room : (a : Row) (w : List Bool) (k : ℕ) → k < 127 → row a ≡ listed w k → a.count < RUNS
listed-room a w k h e =
    omega (arith, ap length e, row-length a, (listed-spaced w k (omega arith)).wide)

module _ (l l' : List ℕ) (w : List Bool) (k : ℕ) (e : l ≡ listed w k) where
  pub listed-on : get_or w k false ≡ false → l' ≡ add_cell l k → l' ≡ listed w (k + 1)
  unfolding listed
  listed-on t q = rw (add-one k, t, ← e) q

  pub listed-over : get_or w k false ≡ true → l ≡ listed w (k + 1)
  unfolding listed
  listed-over t = rw (add-one k, t) e

-- ---- row by row

all-none : (b : Boxes) (xs ys : List ℕ) (i : ℕ) → all_runs b xs ys i 0 ≡ []
unfolding all_runs
all-none b xs ys i = refl

all-more : (b : Boxes) (xs ys : List ℕ) (i m : ℕ) → all_runs b xs ys i (suc m) ≡ all_runs b xs ys i m ++ (row_runs b xs ys (i + m) ∷ [])
unfolding all_runs
all-more b xs ys i zero = let e : i + 0 ≡ i = omega arith in rw e
all-more b xs ys i (suc m) =
    let e : i + suc m ≡ suc i + m = omega arith in
    rw e (ap (λ (t : List (List ℕ)). row_runs b xs ys i ∷ t) (all-more b xs ys (suc i) m))

module _ (b : Boxes) (xs ys : List ℕ) where
  pub rows-begin : (rows : List Row) → take 0 (table rows) ≡ all_runs b xs ys 0 0
  unfolding all_runs
  rows-begin rows = refl

  pub rows-on : (rows : List Row) (i : ℕ) (a : Row) → i < length rows → take i (table rows) ≡ all_runs b xs ys 0 i → row a ≡ row_runs b xs ys i → take (i + 1) (table (set rows i a)) ≡ all_runs b xs ys 0 (i + 1)
  rows-on rows i a h e q =
      let z : 0 + i ≡ i = omega arith in
      let n : length (table rows) ≡ length rows = length-map rows row in
      rw (map-set row rows i a, take_more_set (table rows) i (row a) (omega arith), e, q, add-one i, all-more b xs ys 0 i, z)

  pub rows-end : (rows : List Row) (i : ℕ) → length rows ≤ i → take i (table rows) ≡ all_runs b xs ys 0 i → table rows ≡ all_runs b xs ys 0 i
  rows-end rows i h e = sym (take_all i (table rows) (omega (arith, length-map rows row))) ∙ e

pub ruleset listing = (listed-none, listed-room, listed-on, listed-over)

pub ruleset rows = (rows-on)
