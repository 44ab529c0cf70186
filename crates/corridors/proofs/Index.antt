-- A box fills the cells from its least to before its greatest index: on strictly rising axis lists the test by coordinates is the test by indices.
--     edges-index     the axis lists of the boxes' edges have each box's edges, so `covers` goes by index there
use mathlib.Core.Path.{◌≡◌, refl, sym, ◌∙◌}
use mathlib.Core.Bool.{Bool, true, false}
use mathlib.Core.List.{List}
use Prim.Native.Nat.{ℕ, ◌<◌, ◌≤◌}
use native.Mathlib.Omega.{arith}
use borrow.Author.Tests.{lt-ltb, le-ltb, le-leb, lt-leb, ltb-true, ltb-false}
use lib.Dec.{ltb, leb}
use lib.ListN.{length, get_or}
use Rattle.axis.specs.Axis.{Strict, Has, index, edges}
use Rattle.axis.proofs.Small.{Same, yes, no, same?}
use Rattle.axis.proofs.Ranks.{index-has, index_is}
use Rattle.axis.proofs.Axis.{edges-sorted}
use Rattle.corridors.specs.Grid.{Boxes, covers}
use Rattle.corridors.specs.Runs.{ByIndex}

module _ (l : List ℕ) (s : Strict l) where
  weak : (j k : ℕ) → j ≤ k → k < length l → get_or l j 0 ≤ get_or l k 0
  weak j k h lt = by (same? j k)
    where
      by : Same j k → get_or l j 0 ≤ get_or l k 0
      by (yes e) = rw e (omega arith)
      by (no n) = omega (arith, s.strict j k (omega arith) lt)

  below : (j k : ℕ) → j < length l → k < length l → ltb (get_or l j 0) (get_or l k 0) ≡ ltb j k
  below j k hj hk = by (ltb j k) refl
    where
      by : (t : Bool) → ltb j k ≡ t → ltb (get_or l j 0) (get_or l k 0) ≡ t
      by true e = lt-ltb _ _ (s.strict j k (ltb-true j k e) hk)
      by false e = le-ltb _ _ (weak k j (ltb-false j k e) hj)

  upto : (j k : ℕ) → j < length l → k < length l → leb (get_or l j 0) (get_or l k 0) ≡ leb j k
  upto j k hj hk = by (ltb k j) refl
    where
      by : (t : Bool) → ltb k j ≡ t → leb (get_or l j 0) (get_or l k 0) ≡ leb j k
      by true e = let h = ltb-true k j e in lt-leb _ _ (s.strict k j h hj) ∙ sym (lt-leb j k h)
      by false e = let h = ltb-false k j e in le-leb _ _ (weak j k h hk) ∙ sym (le-leb j k h)

  -- v is on the list: comparing with it is comparing with its index
  from-index : (v i : ℕ) → Has l v → i < length l → leb v (get_or l i 0) ≡ leb (index l v) i
  from-index v i h lt =
      let k = index-has l v h in
      let e : get_or l (index l v) 0 ≡ v = index_is l v k in
      let w : leb (get_or l (index l v) 0) (get_or l i 0) ≡ leb (index l v) i = upto (index l v) i k lt in
      rw e at w

  to-index : (v i : ℕ) → Has l v → i < length l → ltb (get_or l i 0) v ≡ ltb i (index l v)
  to-index v i h lt =
      let k = index-has l v h in
      let e : get_or l (index l v) 0 ≡ v = index_is l v k in
      let w : ltb (get_or l i 0) (get_or l (index l v) 0) ≡ ltb i (index l v) = below i (index l v) lt k in
      rw e at w

pub covers-by-index : (b : Boxes) (xs ys : List ℕ) (k : ℕ) → Strict xs → Strict ys → Has xs (get_or b.from k 0) → Has xs (get_or b.to k 0) → Has ys (get_or b.low k 0) → Has ys (get_or b.high k 0) → ByIndex b xs ys k
unfolding covers
covers-by-index b xs ys k sx sy hf ht hl hh =
    record { by_index = λ i j hi hj. rw (from-index xs sx (get_or b.from k 0) i hf hi, to-index xs sx (get_or b.to k 0) i ht hi, from-index ys sy (get_or b.low k 0) j hl hj, to-index ys sy (get_or b.high k 0) j hh hj) }

pub edges-index : (b : Boxes) (k : ℕ) → k < b.count → ByIndex b (edges b.from b.to b.count) (edges b.low b.high b.count) k
edges-index b k h =
    let x = edges-sorted b.from b.to b.count in
    let y = edges-sorted b.low b.high b.count in
    covers-by-index b _ _ k x.rising y.rising (x.first _ (record { at = k; low = h; is = refl })) (x.second _ (record { at = k; low = h; is = refl })) (y.first _ (record { at = k; low = h; is = refl })) (y.second _ (record { at = k; low = h; is = refl }))
