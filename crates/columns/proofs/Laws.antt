-- The laws of columns: length, entries, a store, a fill.
use Prim.Native.Nat.{ℕ, suc, ◌+◌, ◌-◌, ◌*◌, ◌≤◌, ◌<◌}
use mathlib.Core.Path.{◌≡◌, refl, sym, ap, ◌∙◌}
use mathlib.Core.List.{List}
use native.Mathlib.Omega.{arith}
use native.Mathlib.Decide.{ℕ_discrete, dec_lt}
use native.Mathlib.Nat.{suc-mul, mul-le-mul_right}
use lib.ListN.{length, get_or, set, take, replicate, length-set, length-take, length-append, length-drop, length-replicate}
use borrow.Rule.Slice.PartMut.{put_mid}
use Rattle.std.proofs.lemmas.List.{places}
use Rattle.std.proofs.lemmas.Slice.{between-put_mid}
use lib.Seq.{length-take-le, get_or-set_same, get_or-set_other, get_or-take, ext_get_or}
use Rattle.fixed.specs.Columns.{cell}
use Rattle.fixed.proofs.Columns.{length-pick, pick_at, part-pick}
use Rattle.columns.specs.Columns.{column, Only}

-- ---- places in the list: a later column's words lie behind

later : (n u w i v : ℕ) → i < n → u < w → u * n + i < w * n + v
later n u w i v h l =
    let m : suc u * n ≤ w * n = mul-le-mul_right n l in
    omega (arith, rw suc-mul at m)

apart : (n u w i v : ℕ) → i < n → v < n → (u ≡ w → ⊥) → u * n + i ≡ w * n + v → ⊥
apart n u w i v hi hv ne e = go (dec_lt u w)
  where
    go : Dec (u < w) → ⊥
    go (yes l) = omega (arith, later n u w i v hi l)
    go (no l) = omega (arith, later n w u v i hv (omega arith))

-- ---- length and entries

pub column-long : (w n : ℕ) (l : List ℕ) → length (column w n l) ≡ n
unfolding column
column-long w n l = length-pick (cell (w * n)) n l

pub column-at : (w n : ℕ) (l : List ℕ) (v : ℕ) → v < n → get_or (column w n l) v 0 ≡ get_or l (w * n + v) 0
unfolding column cell
column-at w n l v h = pick_at (cell (w * n)) n l v h

-- two columns are equal when their entries are
same : (w n : ℕ) (l m : List ℕ) → length m ≡ n → ((i : ℕ) → i < n → get_or l (w * n + i) 0 ≡ get_or m i 0) → column w n l ≡ m
same w n l m long h =
    ext_get_or 0 _ _ (column-long w n l ∙ sym long) (λ i b. let b' : i < n = omega (arith, column-long w n l) in column-at w n l i b' ∙ h i b')

-- ---- a store

pub inside : (w n v m : ℕ) → v < n → w * n + n ≤ m → w * n + v < m
inside w n v m h room = omega arith

module _ (w n v x : ℕ) (l : List ℕ) (vn : v < n) (room : w * n + n ≤ length l) where
  pub column-set : column w n (set l (w * n + v) x) ≡ set (column w n l) v x
  column-set = same w n _ _ (length-set (column w n l) v x ∙ column-long w n l) (λ i h. by i h (ℕ_discrete i v))
    where
      by : (i : ℕ) → i < n → Dec (i ≡ v) → get_or (set l (w * n + v) x) (w * n + i) 0 ≡ get_or (set (column w n l) v x) i 0
      by i h (yes e) = rw (e, get_or-set_same l (w * n + v) x 0 (inside w n v (length l) vn room), get_or-set_same (column w n l) v x 0 (omega (arith, column-long w n l)))
      by i h (no ne) = get_or-set_other l (w * n + v) (w * n + i) x 0 (λ z. ne (omega arith)) ∙ sym (get_or-set_other (column w n l) v i x 0 ne ∙ column-at w n l i h)

  pub column-other : Only n w l (set l (w * n + v) x)
  column-other =
      record {
        others = λ k ne. same k n _ _ (column-long k n l) (λ i h. get_or-set_other l (w * n + v) (k * n + i) x 0 (apart n k w i v h vn ne) ∙ sym (column-at k n l i h));
        long = length-set l (w * n + v) x;
      }

-- ---- columns that stay

pub only-refl : (n w : ℕ) (l : List ℕ) → Only n w l l
only-refl n w l = record { others = λ k ne. refl; long = refl }

pub only_then : (n w : ℕ) (a b c : List ℕ) → Only n w a b → Only n w b c → Only n w a c
only_then n w a b c p q = record { others = λ k ne. q.others k ne ∙ p.others k ne; long = q.long ∙ p.long }

-- ---- a fill

module _ (n w x : ℕ) (l ys : List ℕ) (room : w * n + n ≤ length l) (m : ℕ) (same_size : m ≡ n) (e : ys ≡ replicate n x) where
  size : length ys ≡ n
  size = rw e (length-replicate n x)

  pub column-fill : column w n (put_mid (w * n) m l ys) ≡ replicate n x
  unfolding column
  column-fill =
      let far : w * n + n ≤ length (put_mid (w * n) m l ys) = simp (length-append, length-drop) (omega (arith, size, length-take-le (w * n) l (omega arith))) in
      let whole = between-put_mid (w * n) m l ys (w * n + n) (omega arith) (size ∙ omega arith) in
      let k : w * n + n - w * n ≡ n = omega arith in
      sym (part-pick (w * n) n (put_mid (w * n) m l ys) far) ∙ rw k at whole ∙ e

  kept : (j : ℕ) → (w * n ≤ j → j < w * n + n → ⊥) → get_or (put_mid (w * n) m l ys) j 0 ≡ get_or l j 0
  kept j out = go (dec_lt j (w * n))
    where
      go : Dec (j < w * n) → get_or (put_mid (w * n) m l ys) j 0 ≡ get_or l j 0
      go (yes h) = grind (arith, places)
      go (no h) =
          let z : w * n + n ≤ j = by (dec_lt j (w * n + n)) in
          grind (arith, places, size)
        where
          by : Dec (j < w * n + n) → w * n + n ≤ j
          by (yes q) = absurd (out (omega arith) q)
          by (no q) = omega arith

  pub column-fill-only : Only n w l (put_mid (w * n) m l ys)
  column-fill-only =
      record {
        others = λ k ne. same k n _ _ (column-long k n l) (λ i h. kept (k * n + i) (λ p q. apart n k w i (k * n + i - w * n) h (omega arith) ne (omega arith)) ∙ sym (column-at k n l i h));
        long = simp (length-append, length-drop) (omega (arith, size, length-take-le (w * n) l (omega arith)));
      }

-- the first column of a list is its first n words
pub column-first : (n : ℕ) (l : List ℕ) → n ≤ length l → column 0 n l ≡ take n l
column-first n l h =
    same 0 n l _ (length-take n l ∙ omega arith) (λ k b. ap (λ (i : ℕ). get_or l i 0) (omega arith) ∙ sym (get_or-take n l k 0 b))
