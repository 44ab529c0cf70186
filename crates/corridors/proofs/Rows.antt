-- The runs of a row: one is found, taken out, lengthened or begun.
use Rattle.std.proofs.Common.{◌≡◌, refl, sym, ap, ◌∙◌, Bool, true, false, cond, ◌<◌, ◌≤◌, ℕ, suc, ◌+◌, ◌-◌, List, [], length, get_or, take, set, map, Some, None, arith}
use Rattle.std.specs.List.{position, position_or_len}
use Rattle.std.proofs.lemmas.List.{length-map, length-take-le, get_or-map, get_or-take, take-map, take-take, map-set, take_more_set, map_push}
use Rattle.std.proofs.Math.Seq.{take-set-lt}
use Rattle.std.proofs.lemmas.List.Recursion.{is_position_or_len}
use borrow.Author.Tests.{lt-ltb, le-ltb, eq-eqb, ne_eqb, ltb-true, ltb-false}
use lib.Dec.{eqb, ltb}
use Rattle.axis.specs.Axis.{index}
use Rattle.axis.proofs.Small.{Same, yes, no, same?}
use Rattle.corridors.specs.declared.row.Run.{Run}
use Rattle.corridors.specs.declared.row.Row.{Row}
use Rattle.corridors.specs.Grid.{cells, start, end, last, ends_at, add_cell}
use Rattle.corridors.specs.Merge.{has, swap_remove}
use Rattle.corridors.specs.Lent.{run, same, row, table, removed}

pub row-length : (a : Row) → length (row a) ≡ a.count
row-length a = length-map (take a.count a.runs) run ∙ length-take-le a.count a.runs a.few

-- runs are equal if their numbers are
eqb-run : (r v : Run) → eqb (run r) (run v) ≡ same r v
eqb-run r v = by (same? r.start v.start) (same? r.end v.end)
  where
    by : Same r.start v.start → Same r.end v.end → eqb (run r) (run v) ≡ same r v
    by (yes e) (yes f) = rw (eq-eqb r.start v.start e, eq-eqb r.end v.end f) (eq-eqb (run r) (run v) (omega arith))
    by (yes e) (no f) = rw (eq-eqb r.start v.start e, ne_eqb r.end v.end f) (ne_eqb (run r) (run v) (λ z. f (omega arith)))
    by (no e) z = rw (ne_eqb r.start v.start e) (ne_eqb (run r) (run v) (λ q. e (omega (arith, r.within, v.within))))

index-place : (v : Run) (rs : List Run) → index (map run rs) (run v) ≡ position_or_len (λ r. same r v) rs
unfolding index
index-place v rs = is_position_or_len (λ (l : List Run). index (map run l) (run v)) (λ r. same r v) refl (λ x xs. rw (eqb-run x v) (step (same x v) (index (map run xs) (run v)))) rs
  where
    step : (b : Bool) (n : ℕ) → cond b 0 (suc n) ≡ cond b 0 (1 + n)
    step true n = refl
    step false n = omega arith

some-place : (q n f : ℕ) → Some f ≡ cond (ltb q n) (Some q) None → (f < n) × (f ≡ q)
some-place q n f e = by (ltb q n) refl e
  where
    by : (b : Bool) → ltb q n ≡ b → Some f ≡ cond b (Some q) None → (f < n) × (f ≡ q)
    by true t z = let g : f ≡ q = cc in (rw g (ltb-true q n t), g)
    by false t z = cc

none-place : (q n : ℕ) → None ≡ cond (ltb q n) (Some q) None → n ≤ q
none-place q n e = by (ltb q n) refl e
  where
    by : (b : Bool) → ltb q n ≡ b → None ≡ cond b (Some q) None → n ≤ q
    by true t z = cc
    by false t z = ltb-false q n t

-- the last run put in the place of the run f
swapped : (rs : List Run) (c f w : ℕ) (d : Run) → c ≤ length rs → f < c → f ≡ index (map run (take c rs)) w → map run (take (c - 1) (set rs f (get_or rs (c - 1) d))) ≡ swap_remove (map run (take c rs)) w
unfolding swap_remove
swapped rs c f w d le lt e =
    let m : length (take c rs) ≡ c = length-take-le c rs le in
    let n : length (map run (take c rs)) ≡ c = length-map (take c rs) run ∙ m in
    let g : get_or (map run (take c rs)) (c - 1) 0 ≡ run (get_or rs (c - 1) d) = get_or-map run (take c rs) (c - 1) d 0 (omega arith) ∙ ap run (get_or-take c rs (c - 1) d (omega arith)) in
    let k : set (map run (take c rs)) f (run (get_or rs (c - 1) d)) ≡ map run (take c (set rs f (get_or rs (c - 1) d))) = sym (map-set run (take c rs) f (get_or rs (c - 1) d)) ∙ ap (map run) (sym (take-set-lt c rs f (get_or rs (c - 1) d) lt)) in
    let t : take (c - 1) (map run (take c (set rs f (get_or rs (c - 1) d)))) ≡ map run (take (c - 1) (set rs f (get_or rs (c - 1) d))) = take-map run (c - 1) (take c (set rs f (get_or rs (c - 1) d))) ∙ ap (map run) (take-take (c - 1) c (set rs f (get_or rs (c - 1) d)) (omega arith)) in
    rw (n, ← e, g, k) (sym t)

module _ (a : Row) (v : Run) where
  place : index (row a) (run v) ≡ position_or_len (λ r. same r v) (take a.count a.runs)
  place = index-place v (take a.count a.runs)

  module _ (f : ℕ) (e : Some f ≡ position (λ r. same r v) (take a.count a.runs)) where
    found : (f < a.count) × (f ≡ index (row a) (run v))
    found =
        let n = length-take-le a.count a.runs a.few in
        let z = some-place (position_or_len (λ r. same r v) (take a.count a.runs)) (length (take a.count a.runs)) f e in
        (omega arith, z.1 ∙ sym place)

    pub has-some : true ≡ has (row a) (run v)
    unfolding has
    has-some = sym (lt-ltb _ _ (omega (arith, found, row-length a)))

    pub removed-some : (d : Run) → map run (take (a.count - 1) (set a.runs f (get_or a.runs (a.count - 1) d))) ≡ removed (row a) (run v)
    unfolding removed
    removed-some d = rw (← has-some) (swapped a.runs a.count f (run v) d a.few found.0 found.1)

  module _ (e : None ≡ position (λ r. same r v) (take a.count a.runs)) where
    pub has-none : false ≡ has (row a) (run v)
    unfolding has
    has-none =
        let n = length-take-le a.count a.runs a.few in
        let z = none-place (position_or_len (λ r. same r v) (take a.count a.runs)) (length (take a.count a.runs)) e in
        sym (le-ltb _ _ (omega (arith, place, row-length a)))

    pub removed-none : row a ≡ removed (row a) (run v)
    unfolding removed
    removed-none = rw (← has-none)

-- ---- the cell k

module _ (rs : List Run) (c k : ℕ) (d : Run) (le : c ≤ length rs) where
  long : length (map run (take c rs)) ≡ c
  long = length-map (take c rs) run ∙ length-take-le c rs le

  last-run : 0 < c → last (map run (take c rs)) ≡ run (get_or rs (c - 1) d)
  unfolding last
  last-run h =
      rw long (get_or-map run (take c rs) (c - 1) d 0 (omega (arith, length-take-le c rs le)) ∙ ap run (get_or-take c rs (c - 1) d (omega arith)))

  run-end : (r : Run) → end (run r) ≡ r.end
  run-end r = omega (arith, r.within)

  -- the last run ends at k
  pub lengthened : 0 < c → (get_or rs (c - 1) d).end ≡ k → (y : Run) → y.start ≡ (get_or rs (c - 1) d).start → y.end ≡ k + 1 → map run (take c (set rs (c - 1) y)) ≡ add_cell (map run (take c rs)) k
  unfolding add_cell ends_at
  lengthened h e y a b =
      let s : map run (take c (set rs (c - 1) y)) ≡ set (map run (take c rs)) (c - 1) (run y) = ap (map run) (take-set-lt c rs (c - 1) y (omega arith)) ∙ map-set run (take c rs) (c - 1) y in
      let q : run y ≡ run (get_or rs (c - 1) d) + 1 = omega arith in
      rw (long, lt-ltb 0 c h, last-run h, run-end (get_or rs (c - 1) d), eq-eqb _ k e, ← q) s

  off : (b : Bool) → ltb 0 c ≡ b → (0 < c → (get_or rs (c - 1) d).end ≡ k → ⊥) → ends_at (map run (take c rs)) k ≡ false
  unfolding ends_at
  off true t n = let h = ltb-true 0 c t in rw (long, t, last-run h, run-end (get_or rs (c - 1) d), ne_eqb _ k (n h))
  off false t n = rw (long, t)

  -- there is none, or it does not
  pub begun : c < length rs → (0 < c → (get_or rs (c - 1) d).end ≡ k → ⊥) → (y : Run) → run y ≡ cells k (k + 1) → map run (take (c + 1) (set rs c y)) ≡ add_cell (map run (take c rs)) k
  unfolding add_cell
  begun lt n y q = rw (off (ltb 0 c) refl n, ← q, take_more_set rs c y lt) (map_push run (take c rs) y)

run-start : (r : Run) → start (run r) ≡ r.start
run-start r = omega (arith, r.within)

pub run-ends : (r : Run) → (start (run r) ≡ r.start) × (end (run r) ≡ r.end)
run-ends r = (run-start r, omega (arith, r.within))

-- ---- the run j, and the row k

pub run_at : (a : Row) (j : ℕ) (d : Run) → j < a.count → run (get_or (take a.count a.runs) j d) ≡ get_or (row a) j 0
run_at a j d h = sym (get_or-map run (take a.count a.runs) j d 0 (omega (arith, length-take-le a.count a.runs a.few)))

pub row_at : (rows : List Row) (k : ℕ) (d : Row) → k < length rows → get_or (table rows) k [] ≡ row (get_or rows k d)
row_at rows k d h = get_or-map row rows k d [] h

pub table-set : (rows : List Row) (k : ℕ) (a : Row) → table (set rows k a) ≡ set (table rows) k (row a)
table-set rows k a = map-set row rows k a

module _ (rows : List Row) (i : ℕ) (d : Row) (h : i < length rows) (l : List Run) (e : l ≡ take (get_or rows i d).count (get_or rows i d).runs) where
  long-run : length l ≡ (get_or rows i d).count
  long-run = rw e (length-take-le _ _ (get_or rows i d).few)

  pub runs-count : length (get_or (table rows) i []) ≡ length l
  runs-count = rw (row_at rows i d h) (row-length (get_or rows i d) ∙ sym long-run)

  pub run_in : (j : ℕ) (v : Run) → j < length l → run (get_or l j v) ≡ get_or (get_or (table rows) i []) j 0
  run_in j v lt = rw (row_at rows i d h, e) (run_at (get_or rows i d) j v (omega (arith, long-run)))

pub ruleset taking = (has-some, removed-some, has-none, removed-none)

pub ruleset adding = (lengthened)
