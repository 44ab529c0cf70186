-- Every anchor lies within the bounds of the boxes' edges: the runs in the rows always begin before they end, on the axis, since taking runs out leaves only runs that were there.
--     ruled            01's sentences on axis lists, filled cells and runs, of all boxes up to the limit
--     anchors-placed   the anchors lie within the edges' bounds
--     padded-inside    the edges of padded fields are such that `generate_implicit_anchors` may be called
use mathlib.Core.Path.{◌≡◌, refl, ap}
use mathlib.Core.Bool.{Bool, true, false, cond}
use mathlib.Core.List.{List, [], ◌∷◌, ◌++◌}
use Prim.Native.Nat.{ℕ, zero, suc, ◌+◌, ◌-◌, ◌<◌, ◌≤◌}
use native.Mathlib.Omega.{arith}
use native.Mathlib.Nat.{not-suc-le-zero}
use borrow.Author.Tests.{ltb-true, ltb-false}
use lib.Dec.{ltb}
use lib.ListN.{length, get_or, take, set, length-set, length-append, get_or-append}
use lib.Seq.{length-take-le, get_or-take, get_or-append-add, get_or-set_same, get_or-set_other, set_out}
use Rattle.fixed.specs.Constants.{BOXES}
use Rattle.fixed.specs.Steps.{middle}
use Rattle.axis.specs.Axis.{Strict, axis, edges, index}
use Rattle.axis.proofs.Small.{Same, yes, no, same?, Place, place, before, beyond}
use Rattle.axis.proofs.Axis.{edges-sorted, edges-below, edges-above, inserts-length}
use Rattle.corridors.specs.Sizes.{EDGES}
use Rattle.corridors.specs.Grid.{Boxes, start, end, row_runs, all_runs}
use Rattle.corridors.specs.Merge.{Table, Taken, Plan, has, swap_remove, take_out, yield, corridor, fold, row_corridors, corridors, implicit, crossed, turned, anchors}
use Rattle.corridors.specs.Answer.{Inside}
use Rattle.corridors.specs.Lent.{taken}
use Rattle.corridors.specs.Rules.{Ruled, Bounded, Within, Padded, Placed, xs_of, ys_of}
use Rattle.corridors.proofs.Index.{edges-index}
use Rattle.corridors.proofs.Runs.{row_maximal}
use Rattle.corridors.proofs.Laying.{corridor-keeps}
use Rattle.corridors.proofs.Crossing.{implicit-level, level_within}

-- ---- runs on the axis

-- a run of at most m cells
record Valid (m v : ℕ) : Type 0 where
  some : start v < end v
  within : end v ≤ m

record Row (m : ℕ) (r : List ℕ) : Type 0 where
  ok : (j : ℕ) → j < length r → Valid m (get_or r j 0)

record Rows (m : ℕ) (t : Table) : Type 0 where
  each : (i : ℕ) → Row m (get_or t i [])

swap-row : (m v : ℕ) (l : List ℕ) → Row m l → has l v ≡ true → Row m (swap_remove l v)
unfolding has swap_remove
swap-row m v l r e = record { ok = λ j h. by j (omega (arith, len)) (same? j (index l v)) }
  where
    lt : index l v < length l
    lt = ltb-true _ _ e

    len : length (take (length l - 1) (set l (index l v) (get_or l (length l - 1) 0))) ≡ length l - 1
    len = length-take-le (length l - 1) (set l (index l v) (get_or l (length l - 1) 0)) (omega (arith, length-set l (index l v) (get_or l (length l - 1) 0)))

    by : (j : ℕ) → j < length l - 1 → Same j (index l v) → Valid m (get_or (take (length l - 1) (set l (index l v) (get_or l (length l - 1) 0))) j 0)
    by j h (yes z) =
        rw (get_or-take (length l - 1) (set l (index l v) (get_or l (length l - 1) 0)) j 0 h, z, get_or-set_same l (index l v) (get_or l (length l - 1) 0) 0 lt) (r.ok (length l - 1) (omega arith))
    by j h (no z) =
        rw (get_or-take (length l - 1) (set l (index l v) (get_or l (length l - 1) 0)) j 0 h, get_or-set_other l (index l v) j (get_or l (length l - 1) 0) 0 z) (r.ok j (omega arith))

set-rows : (m k : ℕ) (r : List ℕ) (t : Table) → Rows m t → Row m r → Rows m (set t k r)
set-rows m k r t s o = record { each = λ i. by i (ltb k (length t)) refl (same? i k) }
  where
    by : (i : ℕ) (b : Bool) → ltb k (length t) ≡ b → Same i k → Row m (get_or (set t k r) i [])
    by i false e z = rw (set_out t k r (ltb-false k (length t) e)) (s.each i)
    by i true e (yes z) = rw (z, get_or-set_same t k r [] (ltb-true k (length t) e)) o
    by i true e (no z) = rw (get_or-set_other t k i r [] z) (s.each i)

-- ---- taking out

record Out (m n : ℕ) (t : Taken) : Type 0 where
  next_le : t.next ≤ n
  rows_ok : Rows m t.rows

out : (m n v k c : ℕ) (t : Table) → k + c ≤ n → Rows m t → Out m n (take_out v k c t)
unfolding take_out
out m n v k zero t h s = record { next_le = omega arith; rows_ok = s }
out m n v k (suc c) t h s =
    by (has (get_or t k []) v) refl (λ e. out m n v (k + 1) c (set t k (swap_remove (get_or t k []) v)) (omega arith) (set-rows m k _ t s (swap-row m v (get_or t k []) (s.each k) e)))
  where
    by : (b : Bool) → has (get_or t k []) v ≡ b → (has (get_or t k []) v ≡ true → Out m n (take_out v (k + 1) c (set t k (swap_remove (get_or t k []) v)))) → Out m n (cond b (take_out v (k + 1) c (set t k (swap_remove (get_or t k []) v))) (taken k t))
    by true e f = f e
    by false e f = record { next_le = omega arith; rows_ok = s }

-- ---- anchors

within_none : (p q : ℕ) → Within p q []
within_none p q = record { least = λ k h. absurd (not-suc-le-zero h); greatest = λ k h. absurd (not-suc-le-zero h) }

within-two : (p q : ℕ) (l : List ℕ) (u v : ℕ) → Within p q l → p ≤ u → u ≤ q → p ≤ v → v ≤ q → Within p q (l ++ (u ∷ v ∷ []))
within-two p q l u v w pu uq pv vq =
    record { least = λ k h. low k (omega (arith, len)) (place (length l) k); greatest = λ k h. high k (omega (arith, len)) (place (length l) k) }
  where
    len : length (l ++ (u ∷ v ∷ [])) ≡ length l + 2
    len = length-append l (u ∷ v ∷ [])

    low : (k : ℕ) → k < length l + 2 → Place (length l) k → p ≤ get_or (l ++ (u ∷ v ∷ [])) k 0
    low k h (before a) = rw (get_or-append l (u ∷ v ∷ []) 0 k a) (w.least k a)
    low k h (beyond zero e) = rw (e, get_or-append-add l (u ∷ v ∷ []) 0 0) pu
    low k h (beyond (suc zero) e) = rw (e, get_or-append-add l (u ∷ v ∷ []) 1 0) pv
    low k h (beyond (suc (suc j)) e) = absurd (omega arith)

    high : (k : ℕ) → k < length l + 2 → Place (length l) k → get_or (l ++ (u ∷ v ∷ [])) k 0 ≤ q
    high k h (before a) = rw (get_or-append l (u ∷ v ∷ []) 0 k a) (w.greatest k a)
    high k h (beyond zero e) = rw (e, get_or-append-add l (u ∷ v ∷ []) 0 0) uq
    high k h (beyond (suc zero) e) = rw (e, get_or-append-add l (u ∷ v ∷ []) 1 0) vq
    high k h (beyond (suc (suc j)) e) = absurd (omega arith)

record Fine (p q m : ℕ) (g : Plan) : Type 0 where
  rows_fine : Rows m g.rows
  along_fine : Within p q g.along
  across_fine : Within p q g.across

module _ (p q : ℕ) (xs ys : List ℕ) (sx : Strict xs) (wx : Within p q xs) (wy : Within p q ys) where
  yield-fine : (i v : ℕ) (t : Taken) (g : Plan) → i < length ys - 1 → Valid (length xs - 1) v → Out (length xs - 1) (length ys - 1) t → Fine p q (length xs - 1) g → Fine p q (length xs - 1) (yield xs ys i v t g)
  unfolding yield
  yield-fine i v t g h o w f =
      let a = wx.least (start v) (omega (arith, o.some, o.within)) in
      let b = wx.greatest (end v) (omega (arith, o.some, o.within)) in
      let c = sx.strict (start v) (end v) o.some (omega (arith, o.some, o.within)) in
      let d = wy.least i (omega arith) in
      let e = wy.greatest i (omega arith) in
      let k = wy.least t.next (omega (arith, w.next_le)) in
      let l = wy.greatest t.next (omega (arith, w.next_le)) in
      record { rows_fine = w.rows_ok; along_fine = within-two p q g.along (get_or xs (start v) 0 + 1) (get_or xs (end v) 0 - 1) f.along_fine (omega arith) (omega arith) (omega arith) (omega arith); across_fine = within-two p q g.across (middle (get_or ys i 0) (get_or ys t.next 0)) (middle (get_or ys i 0) (get_or ys t.next 0)) f.across_fine (omega arith) (omega arith) (omega arith) (omega arith) }

  corridor-fine : (i j : ℕ) (g : Plan) → i < length ys - 1 → j < length (get_or g.rows i []) → Fine p q (length xs - 1) g → Fine p q (length xs - 1) (corridor xs ys (length ys - 1) i j g)
  unfolding corridor
  corridor-fine i j g h lt f = yield-fine i _ _ g h ((f.rows_fine.each i).ok j lt) (out _ _ _ (i + 1) _ g.rows (omega arith) f.rows_fine) f

  runs-fine : (i k c : ℕ) (g : Plan) → i < length ys - 1 → k + c ≤ length (get_or g.rows i []) → Fine p q (length xs - 1) g → Fine p q (length xs - 1) (fold (corridor xs ys (length ys - 1) i) k c g)
  unfolding fold
  runs-fine i k zero g h le f = f
  runs-fine i k (suc c) g h le f =
      let e = ap length (corridor-keeps xs ys (length ys - 1) i k g) in
      runs-fine i (k + 1) c (corridor xs ys (length ys - 1) i k g) h (omega arith) (corridor-fine i k g h (omega arith) f)

  rows_fine : (k c : ℕ) (g : Plan) → k + c ≤ length ys - 1 → Fine p q (length xs - 1) g → Fine p q (length xs - 1) (fold (row_corridors xs ys (length ys - 1)) k c g)
  unfolding fold row_corridors
  rows_fine k zero g le f = f
  rows_fine k (suc c) g le f = rows_fine (k + 1) c (row_corridors xs ys (length ys - 1) k g) (omega arith) (runs-fine k 0 (length (get_or g.rows k [])) g (omega arith) (omega arith) f)

  all_valid : (b : Boxes) (i c : ℕ) → length xs ≤ EDGES → Rows (length xs - 1) (all_runs b xs ys i c)
  unfolding all_runs
  all_valid b i zero h = record { each = λ k. record { ok = λ j lt. absurd (not-suc-le-zero lt) } }
  all_valid b i (suc c) h = record { each = λ k. by k (all_valid b (suc i) c h) }
    where
      by : (k : ℕ) → Rows (length xs - 1) (all_runs b xs ys (suc i) c) → Row (length xs - 1) (get_or (row_runs b xs ys i ∷ all_runs b xs ys (suc i) c) k [])
      by zero s = record { ok = λ j lt. let r = (row_maximal b xs ys i h).each j lt in record { some = r.some; within = r.within } }
      by (suc k) s = s.each k

  corridors-fine : (b : Boxes) (a c : List ℕ) → length xs ≤ EDGES → Within p q a → Within p q c → Fine p q (length xs - 1) (corridors b xs ys a c)
  unfolding corridors
  corridors-fine b a c h wa wc = rows_fine 0 (length ys - 1) _ (omega arith) (record { rows_fine = all_valid b 0 (length ys - 1) h; along_fine = wa; across_fine = wc })

-- ---- both axes

edges_few : (a b : List ℕ) (n : ℕ) → n ≤ BOXES → length (edges a b n) ≤ EDGES
edges_few a b n h = omega (arith, inserts-length (axis a n) b n, inserts-length [] a n)

edges-within : (p q : ℕ) (a b : List ℕ) (n : ℕ) → Bounded p q n a → Bounded p q n b → Within p q (edges a b n)
edges-within p q a b n wa wb =
    record { least = edges-above p a b n wa.least wb.least; greatest = λ k h. omega (arith, edges-below (suc q) a b n (λ j l. omega (arith, wa.greatest j l)) (λ j l. omega (arith, wb.greatest j l)) k h) }

pub ruled : (b : Boxes) → b.count ≤ BOXES → Ruled b (xs_of b) (ys_of b)
ruled b h =
    record { xs_sorted = edges-sorted b.from b.to b.count; ys_sorted = edges-sorted b.low b.high b.count; by_index = edges-index b; row_maximal = λ i. row_maximal b (xs_of b) (ys_of b) i (edges_few b.from b.to b.count h); column_maximal = λ i. row_maximal (turned b) (ys_of b) (xs_of b) i (edges_few b.low b.high b.count h) }

pub anchors-placed : (p q : ℕ) (b : Boxes) → b.count ≤ BOXES → Bounded p q b.count b.from → Bounded p q b.count b.to → Bounded p q b.count b.low → Bounded p q b.count b.high → Placed p q (anchors b)
unfolding implicit crossed
anchors-placed p q b h wf wt wl wh =
    let sx = (edges-sorted b.from b.to b.count).rising in
    let sy = (edges-sorted b.low b.high b.count).rising in
    let wx = edges-within p q b.from b.to b.count wf wt in
    let wy = edges-within p q b.low b.high b.count wl wh in
    let r = corridors-fine p q (xs_of b) (ys_of b) sx wx wy b [] [] (edges_few b.from b.to b.count h) (within_none p q) (within_none p q) in
    let c = corridors-fine p q (ys_of b) (xs_of b) sy wy wx (turned b) _ _ (edges_few b.low b.high b.count h) r.across_fine r.along_fine in
    let e = implicit-level b (turned b) (xs_of b) (ys_of b) in
    record { paired = e; level_within = omega (arith, level_within b (turned b) (xs_of b) (ys_of b)); xs_within = c.across_fine; ys_within = c.along_fine }

pub padded-inside : (n : ℕ) (l : List ℕ) → Padded n l → Inside n l
padded-inside n l p = record { inside = λ k h. omega (arith, p.greatest k h) }
