-- The runs of a row are exactly its maximal empty runs, left to right: by induction over the cells, with the fact that an empty last cell lies in the last run.
--     runs-maximal     of the first m cells
--     row_maximal      of a whole row
use mathlib.Core.Path.{◌≡◌, refl, sym, ap, ◌∙◌}
use mathlib.Core.Bool.{Bool, true, false, cond}
use mathlib.Core.List.{List, [], ◌∷◌, ◌++◌}
use Prim.Native.Nat.{ℕ, zero, suc, ◌+◌, ◌-◌, ◌<◌, ◌≤◌}
use native.Mathlib.Omega.{arith}
use native.Mathlib.Nat.{not-suc-le-zero}
use borrow.Author.Tests.{lt-ltb, eq-eqb, ltb-true, eqb-true}
use lib.Dec.{eqb, ltb}
use lib.ListN.{length, get_or, set, length-set, length-append, get_or-append}
use lib.Seq.{get_or-append_seam, get_or-set_same, get_or-set_other}
use Rattle.fixed.proofs.Bools.{clash, and_left, and_right, and_both}
use Rattle.axis.specs.Axis.{Has}
use Rattle.axis.proofs.Small.{Same, yes, no, same?}
use Rattle.corridors.specs.Sizes.{SPAN, EDGES}
use Rattle.corridors.specs.Grid.{Boxes, filled, cells, start, end, last, ends_at, add_cell, with_cell, runs, row_runs}
use Rattle.corridors.specs.Runs.{MaximalRun, Maximal}

-- ---- the last run

ends-true : (l : List ℕ) (m : ℕ) → ends_at l m ≡ true → (0 < length l) × (end (get_or l (length l - 1) 0) ≡ m)
unfolding ends_at last
ends-true l m e =
    (ltb-true 0 (length l) (and_left (ltb 0 (length l)) (eqb (end (get_or l (length l - 1) 0)) m) e), eqb-true (end (get_or l (length l - 1) 0)) m (and_right (ltb 0 (length l)) (eqb (end (get_or l (length l - 1) 0)) m) e))

true-ends : (l : List ℕ) (m n : ℕ) → length l ≡ suc n → end (get_or l n 0) ≡ m → ends_at l m ≡ true
unfolding ends_at last
true-ends l m n h e =
    let z : suc n - 1 ≡ n = omega arith in
    rw (h, z) (and_both (lt-ltb 0 (suc n) (omega arith)) (eq-eqb _ _ e))

-- ---- one run, when the row gets one cell more

module _ {b : Boxes} {xs : List ℕ} {y m lo hi : ℕ} where
  longer : MaximalRun b xs y m lo hi → (hi ≡ m → filled b (get_or xs m 0) y ≡ true) → MaximalRun b xs y (suc m) lo hi
  longer r f =
      record { some = r.some; within = omega (arith, r.within); empty = r.empty; left = r.left; right = λ h. by h (same? hi m) }
    where
      by : hi < suc m → Same hi m → filled b (get_or xs hi 0) y ≡ true
      by h (yes e) = rw e (f e)
      by h (no n) = r.right (omega arith)

  shorter : MaximalRun b xs y (suc m) lo hi → hi ≤ m → MaximalRun b xs y m lo hi
  shorter r h = record { some = r.some; within = h; empty = r.empty; left = r.left; right = λ z. r.right (omega arith) }

-- and what a row has in hand
record Good (b : Boxes) (xs : List ℕ) (y m : ℕ) (l : List ℕ) : Type 0 where
  maximal : Maximal b xs y m l
  reach : (k : ℕ) → suc k ≡ m → filled b (get_or xs k 0) y ≡ false → ends_at l m ≡ true

-- ---- the cell m is filled

module _ (b : Boxes) (xs : List ℕ) (y m : ℕ) (l : List ℕ) (g : Good b xs y m l) (f : filled b (get_or xs m 0) y ≡ true) where
  stays : Good b xs y (suc m) l
  stays =
      record { maximal = record { each = λ j h. longer (g.maximal.each j h) (λ e. f); all = λ lo hi r. g.maximal.all lo hi (shorter r (upto r (same? hi (suc m)))); rising = g.maximal.rising }; reach = λ k e z. absurd (clash f (at k (omega arith) z)) }
    where
      at : (k : ℕ) → k ≡ m → filled b (get_or xs k 0) y ≡ false → filled b (get_or xs m 0) y ≡ false
      at k e z = rw e at z

      upto : {lo hi : ℕ} → MaximalRun b xs y (suc m) lo hi → Same hi (suc m) → hi ≤ m
      upto r (yes e) = absurd (clash f (r.empty m (omega (arith, r.some)) (omega arith)))
      upto r (no n) = omega (arith, r.within)

-- ---- it is empty

-- the last run, v, gets one cell more
abbrev grown : List ℕ → ℕ → ℕ → List ℕ
grown l n v = set l n (v + 1)

-- a run begins at m
abbrev more : List ℕ → ℕ → List ℕ
more l m = l ++ (cells m (m + 1) ∷ [])

module _ (b : Boxes) (xs : List ℕ) (y m : ℕ) (l : List ℕ) (g : Good b xs y m l) (small : m < 255) (f : filled b (get_or xs m 0) y ≡ false) where
  -- a run of the longer row that ends before it ends before m
  inner : (lo hi : ℕ) → MaximalRun b xs y (suc m) lo hi → (hi ≡ suc m → ⊥) → hi < m
  inner lo hi r n = by (same? hi m)
    where
      by : Same hi m → hi < m
      by (yes e) = absurd (clash (r.right (omega (arith, r.within))) (rw (sym e) at f))
      by (no z) = omega (arith, r.within)

  -- before the last run
  early : (j n : ℕ) → j < n → n < length l → end (get_or l j 0) < end (get_or l n 0)
  early j n h lt = omega (arith, g.maximal.rising j n h lt, (g.maximal.each n lt).some)

  -- the last run ends at m
  module _ (n v : ℕ) (en : length l ≡ suc n) (ev : get_or l n 0 ≡ v) (ends : end v ≡ m) where
    at_last : get_or (grown l n v) n 0 ≡ v + 1
    at_last = get_or-set_same l n (v + 1) 0 (omega arith)

    at_other : (j : ℕ) → (j ≡ n → ⊥) → get_or (grown l n v) j 0 ≡ get_or l j 0
    at_other j z = get_or-set_other l n j (v + 1) 0 z

    last-run : MaximalRun b xs y m (start v) (end v)
    last-run = rw (← ev) (g.maximal.each n (omega arith))

    same_start : start (v + 1) ≡ start v
    same_start = omega arith

    next-end : end (v + 1) ≡ suc m
    next-end = omega arith

    lengthened : MaximalRun b xs y (suc m) (start v) (suc m)
    lengthened =
        record { some = omega (arith, last-run.some); within = omega arith; empty = λ k a h. by k a h (same? k m); left = last-run.left; right = λ h. absurd (omega arith) }
      where
        by : (k : ℕ) → start v ≤ k → k < suc m → Same k m → filled b (get_or xs k 0) y ≡ false
        by k a h (yes e) = rw e f
        by k a h (no z) = last-run.empty k a (omega arith)

    each-grown : (j : ℕ) → j < length l → Same j n → MaximalRun b xs y (suc m) (start (get_or (grown l n v) j 0)) (end (get_or (grown l n v) j 0))
    each-grown j h (yes e) = rw (e, at_last, same_start, next-end) lengthened
    each-grown j h (no z) =
        rw (at_other j z) (longer (g.maximal.each j h) (λ e. absurd (omega (arith, early j n (omega arith) (omega arith), ap end ev))))

    start-grown : (j : ℕ) → Same j n → start (get_or (grown l n v) j 0) ≡ start (get_or l j 0)
    start-grown j (yes e) = rw (e, at_last, ev) same_start
    start-grown j (no z) = rw (at_other j z)

    -- the run that ended at m is the last one
    only-last : (lo : ℕ) → (w : Has l (cells lo m)) → Same w.at n → cells lo m ≡ v
    only-last lo w (yes e) = sym w.is ∙ ap (λ (k : ℕ). get_or l k 0) e ∙ ev
    only-last lo w (no z) = absurd (omega (arith, early w.at n (omega (arith, w.low)) (omega arith), ap end w.is, ap end ev))

    through : (lo : ℕ) → MaximalRun b xs y (suc m) lo (suc m) → Same lo m → cells lo m ≡ v
    through lo r (yes e) = absurd (clash (r.left (m - 1) (omega (arith, last-run.some))) (last-run.empty (m - 1) (omega (arith, last-run.some)) (omega (arith, last-run.some))))
    through lo r (no z) =
        let w = g.maximal.all lo m (record { some = omega (arith, r.some); within = omega arith; empty = λ k a h. r.empty k a (omega arith); left = r.left; right = λ h. absurd (omega arith) }) in
        only-last lo w (same? w.at n)

    len : length (grown l n v) ≡ suc n
    len = length-set l n (v + 1) ∙ en

    all_grown : (lo hi : ℕ) → MaximalRun b xs y (suc m) lo hi → Same hi (suc m) → Has (grown l n v) (cells lo hi)
    all_grown lo hi r (yes e) =
        record { at = n; low = omega (arith, len); is = at_last ∙ omega (arith, through lo (rw e at r) (same? lo m)) }
    all_grown lo hi r (no z) =
        let h = inner lo hi r z in
        let w = g.maximal.all lo hi (shorter r (omega arith)) in
        record { at = w.at; low = omega (arith, len, w.low); is = at_other w.at (λ q. omega (arith, ap end w.is, ap end ev, ap (λ (k : ℕ). end (get_or l k 0)) q)) ∙ w.is }

    rises : (j k : ℕ) → j < k → k < length (grown l n v) → end (get_or (grown l n v) j 0) < start (get_or (grown l n v) k 0)
    rises j k h lt = rw (at_other j (λ e. omega (arith, len)), start-grown k (same? k n)) (g.maximal.rising j k h (omega (arith, len)))

    grows : Good b xs y (suc m) (grown l n v)
    grows =
        record { maximal = record { each = λ j h. each-grown j (omega (arith, len)) (same? j n); all = λ lo hi r. all_grown lo hi r (same? hi (suc m)); rising = rises }; reach = λ k e z. true-ends (grown l n v) (suc m) n len (rw at_last next-end) }

  -- no run ends at m
  module _ (no_end : ends_at l m ≡ false) where
    long : length (more l m) ≡ suc (length l)
    long = length-append l (cells m (m + 1) ∷ []) ∙ omega arith

    at_new : get_or (more l m) (length l) 0 ≡ cells m (m + 1)
    at_new = get_or-append_seam l (cells m (m + 1)) [] 0

    at_old : (j : ℕ) → j < length l → get_or (more l m) j 0 ≡ get_or l j 0
    at_old j h = get_or-append l (cells m (m + 1) ∷ []) 0 j h

    short : (j n : ℕ) → j < length l → length l ≡ suc n → Same j n → end (get_or l j 0) < m
    short j n h e (yes z) = ends (same? (end (get_or l j 0)) m)
      where
        ends : Same (end (get_or l j 0)) m → end (get_or l j 0) < m
        ends (yes q) = absurd (clash (true-ends l m n e (rw z at q)) no_end)
        ends (no q) = omega (arith, (g.maximal.each j h).within)
    short j n h e (no z) = omega (arith, early j n (omega arith) (omega arith), (g.maximal.each n (omega arith)).within)

    shorts : (j : ℕ) → j < length l → end (get_or l j 0) < m
    shorts j h = short j (length l - 1) h (omega arith) (same? j (length l - 1))

    before : (k : ℕ) → suc k ≡ m → filled b (get_or xs k 0) y ≡ true
    before k e = by (filled b (get_or xs k 0) y) refl
      where
        by : (t : Bool) → filled b (get_or xs k 0) y ≡ t → filled b (get_or xs k 0) y ≡ true
        by true q = q
        by false q = absurd (clash (g.reach k e q) no_end)

    begun : MaximalRun b xs y (suc m) m (suc m)
    begun =
        record { some = omega arith; within = omega arith; empty = λ k a h. here k (omega arith); left = before; right = λ h. absurd (omega arith) }
      where
        here : (k : ℕ) → k ≡ m → filled b (get_or xs k 0) y ≡ false
        here k e = rw e f

    new-start : start (cells m (m + 1)) ≡ m
    new-start = omega arith

    new-end : end (cells m (m + 1)) ≡ suc m
    new-end = omega arith

    each_more : (j : ℕ) → j < suc (length l) → Same j (length l) → MaximalRun b xs y (suc m) (start (get_or (more l m) j 0)) (end (get_or (more l m) j 0))
    each_more j h (yes e) = rw (e, at_new, new-start, new-end) begun
    each_more j h (no z) = rw (at_old j (omega arith)) (longer (g.maximal.each j (omega arith)) (λ e. absurd (omega (arith, shorts j (omega arith)))))

    first : (lo : ℕ) → MaximalRun b xs y (suc m) lo (suc m) → Same lo m → lo ≡ m
    first lo r (yes e) = e
    first lo r (no z) = absurd (clash (g.reach (m - 1) (omega (arith, r.some)) (r.empty (m - 1) (omega (arith, r.some)) (omega arith))) no_end)

    all_more : (lo hi : ℕ) → MaximalRun b xs y (suc m) lo hi → Same hi (suc m) → Has (more l m) (cells lo hi)
    all_more lo hi r (yes e) =
        record { at = length l; low = omega (arith, long); is = at_new ∙ omega (arith, first lo (rw e at r) (same? lo m)) }
    all_more lo hi r (no z) =
        let h = inner lo hi r z in
        let w = g.maximal.all lo hi (shorter r (omega arith)) in
        record { at = w.at; low = omega (arith, long, w.low); is = at_old w.at w.low ∙ w.is }

    rising : (j k : ℕ) → j < k → k < suc (length l) → Same k (length l) → end (get_or (more l m) j 0) < start (get_or (more l m) k 0)
    rising j k h lt (yes e) = rw (at_old j (omega arith), e, at_new, new-start) (shorts j (omega arith))
    rising j k h lt (no z) = rw (at_old j (omega arith), at_old k (omega arith)) (g.maximal.rising j k h (omega arith))

    begins : Good b xs y (suc m) (more l m)
    begins =
        record { maximal = record { each = λ j h. each_more j (omega (arith, long)) (same? j (length l)); all = λ lo hi r. all_more lo hi r (same? hi (suc m)); rising = λ j k h lt. rising j k h (omega (arith, long)) (same? k (length l)) }; reach = λ k e z. true-ends (more l m) (suc m) (length l) long (rw at_new new-end) }

-- ---- cell by cell

module _ (b : Boxes) (xs : List ℕ) (y m : ℕ) (l : List ℕ) (g : Good b xs y m l) (small : m < 255) where
  cell-good : (t u : Bool) → filled b (get_or xs m 0) y ≡ t → ends_at l m ≡ u → Good b xs y (suc m) (cond t l (cond u (set l (length l - 1) (last l + 1)) (l ++ (cells m (m + 1) ∷ []))))
  unfolding last
  cell-good true u f e = stays b xs y m l g f
  cell-good false true f e = let w = ends-true l m e in grows b xs y m l g small f (length l - 1) (get_or l (length l - 1) 0) (omega arith) refl w.1
  cell-good false false f e = begins b xs y m l g small f e

runs-good : (b : Boxes) (xs : List ℕ) (y m : ℕ) → m < 256 → Good b xs y m (runs b xs y m)
unfolding runs with_cell add_cell
runs-good b xs y zero h =
    record { maximal = record { each = λ j lt. absurd (not-suc-le-zero lt); all = λ lo hi r. absurd (omega (arith, r.some, r.within)); rising = λ j k z lt. absurd (not-suc-le-zero lt) }; reach = λ k e z. absurd (omega arith) }
runs-good b xs y (suc m) h =
    cell-good b xs y m (runs b xs y m) (runs-good b xs y m (omega arith)) (omega arith) (filled b (get_or xs m 0) y) (ends_at (runs b xs y m) m) refl refl

pub runs-maximal : (b : Boxes) (xs : List ℕ) (y m : ℕ) → m < SPAN → Maximal b xs y m (runs b xs y m)
runs-maximal b xs y m h = (runs-good b xs y m h).maximal

pub row_maximal : (b : Boxes) (xs ys : List ℕ) (i : ℕ) → length xs ≤ EDGES → Maximal b xs (get_or ys i 0) (length xs - 1) (row_runs b xs ys i)
unfolding row_runs
row_maximal b xs ys i h = runs-maximal b xs (get_or ys i 0) (length xs - 1) (omega arith)
