-- Lists whose records keep their ranges, one record after another: each word, the keys, and what a key belongs to.
--     length-flat, word_at     the rows' length, and word j of row i
--     distinct                 the keys of boxes or nets are distinct
--     owned                    the key of each port or end is there
use mathlib.Core.Path.{◌≡◌, refl, sym, ap, ◌∙◌}
use mathlib.Core.List.{List, [], ◌∷◌, ◌++◌}
use mathlib.Core.Bool.{Bool, true, false, not, cond, ◌&&◌, ◌||◌, true≢false}
use Prim.Native.Nat.{ℕ, zero, suc, ◌+◌, ◌-◌, ◌*◌, ◌<◌, ◌≤◌}
use native.Mathlib.Nat.{zero-mul}
use native.Mathlib.Omega.{arith}
use borrow.Author.Tests.{eqb-true, eq-eqb, ltb-true, ltb-false, not-true}
use lib.Dec.{eqb, ltb}
use lib.ListN.{length, get_or, length-append, length-map, get_or-append}
use lib.Seq.{get_or-append-add}
use Rattle.fixed.proofs.Bools.{and_left, and_right}
use Rattle.rows.specs.Rows.{key, ids, scan, place, is_in}
use Rattle.rows.proofs.Rows.{suc-row}
use Rattle.book.specs.Book.{Record, width, ok_record, own, belongs}
use Rattle.book.specs.declared.Kind.{Kind}
use Rattle.book.proofs.Fields.{record-long}
use Rattle.block.proofs.Blocks.{wide_enough}
use Rattle.book.proofs.Keeps.{is_in-cons}
use Rattle.anchors.specs.Records.{ROW}
use Rattle.anchors.proofs.Counted.{Distinct, Owned}
use Rattle.select.specs.Page.{flat}

-- each record keeps its ranges
pub data Fine (k : Kind) : List Record → Type 0 where
  none : Fine k []
  more : {r : Record} {rs : List Record} → ok_record k r ≡ true → Fine k rs → Fine k (r ∷ rs)

fine : (k : Kind) (t : Record → List Record → Bool) → ((r : Record) (rs : List Record) → t r rs ≡ true → ok_record k r ≡ true)
    → (rs : List Record) → scan t rs ≡ true → Fine k rs
unfolding scan
fine k t h [] e = none
fine k t h (r ∷ rs) e = more (h r rs (and_left (t r rs) (scan t rs) e)) (fine k t h rs (and_right (t r rs) (scan t rs) e))

pub fine-own : (k : Kind) (rs : List Record) → scan (own k) rs ≡ true → Fine k rs
unfolding own
fine-own k rs e = fine k (own k) (λ r qs t. and_left (ok_record k r) (not (is_in (key r) (ids qs))) t) rs e

pub fine-belongs : (k : Kind) (os rs : List Record) → scan (belongs k os) rs ≡ true → Fine k rs
unfolding belongs
fine-belongs k os rs e = fine k (belongs k os) (λ r qs t. and_left (ok_record k r) (is_in (key r) (ids os)) t) rs e

module _ (k : Kind) where
  pub fine-at : {rs : List Record} → Fine k rs → (i : ℕ) → i < length rs → ok_record k (get_or rs i []) ≡ true
  fine-at none i h = absurd (omega arith)
  fine-at (more e f) zero h = e
  fine-at (more e f) (suc i) h = fine-at f i (omega arith)

  pub length-flat : {rs : List Record} → Fine k rs → length (flat rs) ≡ length rs * width k
  unfolding flat
  length-flat none = sym (zero-mul (width k))
  length-flat (more {r} {rs} e f) = length-append r (flat rs) ∙ rw (record-long k r e, length-flat f) (sym (suc-row (length rs) (width k)))

  pub word_at : {rs : List Record} → Fine k rs → (i j : ℕ) → i < length rs → j < width k → get_or (flat rs) (i * width k + j) 0 ≡ get_or (get_or rs i []) j 0
  unfolding flat
  word_at none i j h l = absurd (omega arith)
  word_at (more {r} {rs} e f) zero j h l =
      let q : 0 * width k + j ≡ j = rw zero-mul (omega arith) in
      rw q (get_or-append r (flat rs) 0 j (omega (arith, record-long k r e)))
  word_at (more {r} {rs} e f) (suc i) j h l =
      let q : suc i * width k + j ≡ length r + (i * width k + j) = omega (arith, suc-row i (width k), record-long k r e) in
      rw q (get_or-append-add r (flat rs) (i * width k + j) 0 ∙ word_at f i j (omega arith) l)

  pub key-at : {rs : List Record} → Fine k rs → (i : ℕ) → i < length rs → get_or (flat rs) (i * width k) 0 ≡ key (get_or rs i [])
  unfolding key
  key-at {rs} f i h = ap (λ (m : ℕ). get_or (flat rs) m 0) (omega arith) ∙ word_at f i 0 h (wide_enough k)

  -- every word, also behind the rows, is below m, if every field of a record is
  pub words-low : (m : ℕ) → 0 < m → ((r : Record) → ok_record k r ≡ true → (j : ℕ) → j < width k → get_or r j 0 < m) → {rs : List Record} → Fine k rs → (i : ℕ) → get_or (flat rs) i 0 < m
  unfolding flat
  words-low m h low none i = h
  words-low m h low (more {r} {rs} e f) i = go (ltb i (length r)) refl (words-low m h low f (i - length r))
    where
      go : (t : Bool) → ltb i (length r) ≡ t → get_or (flat rs) (i - length r) 0 < m → get_or (r ++ flat rs) i 0 < m
      go true q on =
          let l : i < length r = ltb-true i (length r) q in
          rw (get_or-append r (flat rs) 0 i l) (low r e i (omega (arith, record-long k r e)))
      go false q on =
          let l : length r ≤ i = ltb-false i (length r) q in
          let s : i ≡ length r + (i - length r) = omega arith in
          rw s (rw (get_or-append-add r (flat rs) (i - length r) 0) on)

-- ---- keys
id-at : (rs : List Record) (i : ℕ) → i < length rs → get_or (ids rs) i 0 ≡ key (get_or rs i [])
id-at [] i h = absurd (omega arith)
id-at (r ∷ rs) zero h = refl
id-at (r ∷ rs) (suc i) h = id-at rs i (omega arith)

or_l : (a b : Bool) → a || b ≡ false → a ≡ false
or_l true b e = e
or_l false b e = refl

or_r : (a b : Bool) → a || b ≡ false → b ≡ false
or_r true b e = absurd (true≢false e)
or_r false b e = e

out_at : (x : ℕ) (xs : List ℕ) (i : ℕ) → is_in x xs ≡ false → i < length xs → get_or xs i 0 ≡ x → ⊥
out_at x [] i e h q = omega arith
out_at x (y ∷ xs) zero e h q = true≢false (sym (eq-eqb y x q) ∙ or_l (eqb y x) (is_in x xs) (sym (is_in-cons x y xs) ∙ e))
out_at x (y ∷ xs) (suc i) e h q = out_at x xs i (or_r (eqb y x) (is_in x xs) (sym (is_in-cons x y xs) ∙ e)) (omega arith) q

in_place : (x : ℕ) (xs : List ℕ) → place x xs < length xs → get_or xs (place x xs) 0 ≡ x
unfolding place
in_place x [] h = absurd (omega arith)
in_place x (y ∷ xs) h = by (eqb y x) refl h (λ l. in_place x xs l)
  where
    by : (t : Bool) → eqb y x ≡ t → cond t 0 (suc (place x xs)) < suc (length xs) → (place x xs < length xs → get_or xs (place x xs) 0 ≡ x)
        → get_or (y ∷ xs) (cond t 0 (suc (place x xs))) 0 ≡ x
    by true e l on = eqb-true y x e
    by false e l on = on (omega arith)

apart : (k : Kind) (rs : List Record) → scan (own k) rs ≡ true → (i j : ℕ) → i < j → j < length rs → key (get_or rs i []) ≡ key (get_or rs j []) → ⊥
unfolding scan own
apart k [] e i j h l q = omega arith
apart k (r ∷ rs) e i zero h l q = omega arith
apart k (r ∷ rs) e zero (suc j) h l q =
    let o = and_right (ok_record k r) (not (is_in (key r) (ids rs))) (and_left (ok_record k r && not (is_in (key r) (ids rs))) (scan (own k) rs) e) in
    out_at (key r) (ids rs) j (not-true (is_in (key r) (ids rs)) o) (rw length-map (omega arith)) (id-at rs j (omega arith) ∙ sym q)
apart k (r ∷ rs) e (suc i) (suc j) h l q =
    apart k rs (and_right (ok_record k r && not (is_in (key r) (ids rs))) (scan (own k) rs) e) i j (omega arith) (omega arith) q

pub distinct : (k : Kind) (rs : List Record) → scan (own k) rs ≡ true → Distinct (width k) (length rs) (flat rs)
distinct k rs e =
    let f = fine-own k rs e in
    record { apart = λ i j h l q. apart k rs e i j h l (sym (key-at k f i (omega arith)) ∙ q ∙ key-at k f j l) }

-- ---- what a key belongs to
belongs-at : (k : Kind) (os rs : List Record) → scan (belongs k os) rs ≡ true → (i : ℕ) → i < length rs → is_in (key (get_or rs i [])) (ids os) ≡ true
unfolding scan belongs
belongs-at k os [] e i h = absurd (omega arith)
belongs-at k os (r ∷ rs) e zero h = and_right (ok_record k r) _ (and_left (ok_record k r && is_in (key r) (ids os)) (scan (belongs k os) rs) e)
belongs-at k os (r ∷ rs) e (suc i) h = belongs-at k os rs (and_right (ok_record k r && is_in (key r) (ids os)) (scan (belongs k os) rs) e) i (omega arith)

module _ (o k : Kind) (w : width k ≡ ROW) (os rs : List Record) (fo : Fine o os) (e : scan (belongs k os) rs ≡ true) where
  spot : (i : ℕ) → i < length rs → ℕ
  spot i h = place (key (get_or rs i [])) (ids os)

  spot-low : (i : ℕ) (h : i < length rs) → spot i h < length os
  unfolding spot is_in
  spot-low i h =
      let t : ltb (place (key (get_or rs i [])) (ids os)) (length (ids os)) ≡ true = belongs-at k os rs e i h in
      omega (arith, ltb-true (place (key (get_or rs i [])) (ids os)) (length (ids os)) t, length-map os key)

  spot_is : (i : ℕ) (h : i < length rs) → get_or (flat os) (spot i h * width o) 0 ≡ get_or (flat rs) (i * ROW) 0
  unfolding spot
  spot_is i h =
      let l : spot i h < length os = spot-low i h in
      let q = in_place (key (get_or rs i [])) (ids os) (rw length-map l) in
      rw (← w) (key-at o fo (spot i h) l ∙ sym (id-at os (spot i h) l) ∙ q ∙ sym (key-at k (fine-belongs k os rs e) i h))

  pub owned : Owned (flat rs) (length rs) (flat os) (width o) (length os)
  owned = record { key = spot; low = spot-low; is = spot_is }
