-- From the words of a block to its lists.
--     lists-with, lists-without, lists_at    a record put last, taken out, put in at a place
--     counted-with, counted-without          and the counts keep the limits
--     before-block                           the block before a change that an entry undoes
use mathlib.Core.Path.{◌≡◌, refl, sym, ap, ◌∙◌}
use mathlib.Core.List.{List, [], ◌∷◌, ◌++◌}
use mathlib.Core.Bool.{true, ◌&&◌, true≢false}
use Prim.Native.Nat.{ℕ, ◌+◌, ◌-◌, ◌*◌, ◌≤◌, ◌<◌}
use native.Mathlib.Omega.{arith}
use lib.ListN.{length, get_or, drop, length-drop}
use lib.Seq
use lib.Dec.{eqb}
use borrow.Author.Tests.{ltb-true, leb-true, eqb-true}
use Rattle.fixed.proofs.Bools.{and_left, and_right}
use Rattle.rows.specs.Rows.{with_part, records, count, put_last, taken_out, put_in, without, inserted, key}
use Rattle.rows.proofs.Areas
use Rattle.rows.proofs.Parts
use Rattle.block.specs.Sizes.{BLOCK}
use Rattle.book.specs.Book.{Record, Lists, list, with_list, width, most, ok_record, ok_lists, add_number, with_record}
use Rattle.book.specs.Entries.{Entry, out, back, none, applies, restored, before as Before-of}
use Rattle.block.specs.Block.{start, size, area, list_of, lists_of, Counted, with_row, without_row, with_row_at, block_before}
use Rattle.book.specs.declared.Kind.{Kind}
use Rattle.book.proofs.Fields.{record-long}
use Rattle.block.proofs.Blocks.{within, rows_in, area-long, length-list, room_0, room_of, row_words, row_inside}
use Rattle.book.proofs.Keeps
use Rattle.book.proofs.Entries
use Rattle.book.proofs.ByKind.{list-with, lists-path}

-- ---- lists by their kinds
pub list-is : (k : Kind) (blk : List ℕ) → list k (lists_of blk) ≡ list_of k blk
unfolding lists_of
list-is Kind.Box blk = refl
list-is Kind.Port blk = refl
list-is Kind.Net blk = refl
list-is Kind.End blk = refl

-- two kinds are one, or their areas lie apart, and a list of the one is none of the other's
data Two : Kind → Kind → Type 0 where
  one : {k : Kind} → Two k k
  before : {j k : Kind} → start j + size j ≤ start k → ((rs : List Record) (l : Lists) → list j (with_list k rs l) ≡ list j l) → Two j k
  behind : {j k : Kind} → start k + size k ≤ start j → ((rs : List Record) (l : Lists) → list j (with_list k rs l) ≡ list j l) → Two j k

two : (j k : Kind) → Two j k
two Kind.Box Kind.Box = one
two Kind.Box Kind.Port = before {j = Kind.Box} {k = Kind.Port} (omega arith) (λ rs l. refl)
two Kind.Box Kind.Net = before {j = Kind.Box} {k = Kind.Net} (omega arith) (λ rs l. refl)
two Kind.Box Kind.End = before {j = Kind.Box} {k = Kind.End} (omega arith) (λ rs l. refl)
two Kind.Port Kind.Box = behind {j = Kind.Port} {k = Kind.Box} (omega arith) (λ rs l. refl)
two Kind.Port Kind.Port = one
two Kind.Port Kind.Net = before {j = Kind.Port} {k = Kind.Net} (omega arith) (λ rs l. refl)
two Kind.Port Kind.End = before {j = Kind.Port} {k = Kind.End} (omega arith) (λ rs l. refl)
two Kind.Net Kind.Box = behind {j = Kind.Net} {k = Kind.Box} (omega arith) (λ rs l. refl)
two Kind.Net Kind.Port = behind {j = Kind.Net} {k = Kind.Port} (omega arith) (λ rs l. refl)
two Kind.Net Kind.Net = one
two Kind.Net Kind.End = before {j = Kind.Net} {k = Kind.End} (omega arith) (λ rs l. refl)
two Kind.End Kind.Box = behind {j = Kind.End} {k = Kind.Box} (omega arith) (λ rs l. refl)
two Kind.End Kind.Port = behind {j = Kind.End} {k = Kind.Port} (omega arith) (λ rs l. refl)
two Kind.End Kind.Net = behind {j = Kind.End} {k = Kind.Net} (omega arith) (λ rs l. refl)
two Kind.End Kind.End = one

-- ---- a block with another area of kind k
module _ (k : Kind) (blk ys : List ℕ) (long : length blk ≡ BLOCK) (ly : length ys ≡ size k) where
  abbrev new : List ℕ
  new = with_part (start k) (size k) ys blk

  fits : start k + size k ≤ length blk
  fits = omega (arith, within k)

  long-new : length new ≡ BLOCK
  long-new = Parts.put-length (start k) (size k) ys blk ly fits ∙ long

  same_area : area k new ≡ ys
  unfolding area
  same_area = Parts.put_same (start k) (size k) ys blk ly fits

  list_at : (rs : List Record) → records (width k) (count ys) ys ≡ rs → (j : Kind) → Two j k → list j (lists_of new) ≡ list j (with_list k rs (lists_of blk))
  unfolding list_of area
  list_at rs e j one = list-is k new ∙ ap (λ (t : List ℕ). records (width k) (count t) t) same_area ∙ e ∙ sym (list-with k rs (lists_of blk))
  list_at rs e j (before h f) =
      list-is j new ∙ ap (λ (t : List ℕ). records (width j) (count t) t) (Parts.put-before (start k) (size k) ys blk ly fits (start j) (size j) h)
      ∙ sym (list-is j blk) ∙ sym (f rs (lists_of blk))
  list_at rs e j (behind h f) =
      list-is j new ∙ ap (λ (t : List ℕ). records (width j) (count t) t) (Parts.put-behind (start k) (size k) ys blk ly fits (start j) (size j) h)
      ∙ sym (list-is j blk) ∙ sym (f rs (lists_of blk))

  lists-new : (rs : List Record) → records (width k) (count ys) ys ≡ rs → lists_of new ≡ with_list k rs (lists_of blk)
  lists-new rs e = lists-path (lists_of new) (with_list k rs (lists_of blk)) (λ j. list_at rs e j (two j k))

  few-new : ((j : Kind) → count (area j blk) ≤ most j) → count ys ≤ most k → (j : Kind) → Two j k → count (area j new) ≤ most j
  unfolding area
  few-new f h j one = rw same_area h
  few-new f h j (before a g) = rw (Parts.put-before (start k) (size k) ys blk ly fits (start j) (size j) a) (f j)
  few-new f h j (behind a g) = rw (Parts.put-behind (start k) (size k) ys blk ly fits (start j) (size j) a) (f j)

  counted-new : ((j : Kind) → count (area j blk) ≤ most j) → count ys ≤ most k → Counted new
  counted-new f h = record { long = long-new; few = λ j. few-new f h j (two j k) }

-- ---- a block with a row put last, or out
module _ (k : Kind) (blk : List ℕ) (cnt : Counted blk) where
  len : length (area k blk) ≡ size k
  len = area-long k blk cnt.long

  module _ (r : Record) (hw : length r ≡ width k) (room : count (area k blk) < most k) where
    full : 1 + (count (area k blk) + 1) * width k ≤ length (area k blk)
    full = omega (arith, len, rows_in k (count (area k blk) + 1) (omega arith))

    pub lists-with : lists_of (with_row k r blk) ≡ with_record k r (lists_of blk)
    unfolding with_row with_record list_of
    lists-with =
        lists-new k blk (put_last (width k) r (area k blk)) cnt.long (Areas.length-put (width k) r (area k blk) hw full ∙ len) (list k (lists_of blk) ++ (r ∷ []))
        (ap (λ (n : ℕ). records (width k) n (put_last (width k) r (area k blk))) (Areas.put_count (width k) r (area k blk) hw full)
        ∙ Areas.put-records (width k) r (area k blk) hw full ∙ ap (λ (t : List Record). t ++ (r ∷ [])) (sym (list-is k blk)))

    pub counted-with : Counted (with_row k r blk)
    unfolding with_row
    counted-with =
        counted-new k blk (put_last (width k) r (area k blk)) cnt.long (Areas.length-put (width k) r (area k blk) hw full ∙ len) cnt.few
        (rw (Areas.put_count (width k) r (area k blk) hw full) (omega arith))

  module _ (i : ℕ) (hi : i < count (area k blk)) where
    rows_fit : 1 + count (area k blk) * width k ≤ length (area k blk)
    rows_fit = omega (arith, len, rows_in k (count (area k blk)) (cnt.few k))

    pub lists-without : lists_of (without_row k i blk) ≡ with_list k (without i (list k (lists_of blk))) (lists_of blk)
    unfolding without_row list_of
    lists-without =
        lists-new k blk (taken_out (width k) i (area k blk)) cnt.long (Areas.length_cut (width k) i (area k blk) hi rows_fit ∙ len)
        (without i (list k (lists_of blk)))
        (ap (λ (n : ℕ). records (width k) n (taken_out (width k) i (area k blk))) (Areas.cut-count (width k) i (area k blk) hi rows_fit)
        ∙ Areas.cut-records (width k) i (area k blk) hi rows_fit ∙ ap (without i) (sym (list-is k blk)))

    pub counted-without : Counted (without_row k i blk)
    unfolding without_row
    counted-without =
        counted-new k blk (taken_out (width k) i (area k blk)) cnt.long (Areas.length_cut (width k) i (area k blk) hi rows_fit ∙ len) cnt.few
        (rw (Areas.cut-count (width k) i (area k blk) hi rows_fit) (omega (arith, cnt.few k)))

-- ---- a block with a row put in at a place
module _ (k : Kind) (blk : List ℕ) (cnt : Counted blk) (i : ℕ) (hi : i ≤ count (area k blk)) (r : Record) (hw : length r ≡ width k) (room : count (area k blk) < most k) where
  len-at : length (area k blk) ≡ size k
  len-at = area-long k blk cnt.long

  full_at : 1 + (count (area k blk) + 1) * width k ≤ length (area k blk)
  full_at = omega (arith, len-at, rows_in k (count (area k blk) + 1) (omega arith))

  pub lists_at : lists_of (with_row_at k i r blk) ≡ with_list k (inserted i r (list k (lists_of blk))) (lists_of blk)
  unfolding with_row_at list_of
  lists_at =
      lists-new k blk (put_in (width k) i r (area k blk)) cnt.long (Areas.length-put_in (width k) i r (area k blk) hi hw full_at ∙ len-at)
      (inserted i r (list k (lists_of blk)))
      (ap (λ (n : ℕ). records (width k) n (put_in (width k) i r (area k blk))) (Areas.in_count (width k) i r (area k blk) hi hw full_at)
      ∙ Areas.in-records (width k) i r (area k blk) hi hw full_at ∙ ap (inserted i r) (sym (list-is k blk)))

  pub long-at : length (with_row_at k i r blk) ≡ BLOCK
  unfolding with_row_at
  long-at =
      Parts.put-length (start k) (size k) (put_in (width k) i r (area k blk)) blk (Areas.length-put_in (width k) i r (area k blk) hi hw full_at ∙ len-at)
      (omega (arith, within k, cnt.long)) ∙ cnt.long

-- ---- a block whose lists keep the limits
module _ (blk : List ℕ) (ok : ok_lists (lists_of blk) ≡ true) where
  few-of : (k : Kind) → length (list k (lists_of blk)) ≤ most k
  few-of Kind.Box = Keeps.owners-few Kind.Box (lists_of blk).boxes (Keeps.boxes-ok (lists_of blk) ok)
  few-of Kind.Port = Keeps.members-few Kind.Port (lists_of blk).ports (lists_of blk).boxes (Keeps.ports-ok (lists_of blk) ok)
  few-of Kind.Net = Keeps.owners-few Kind.Net (lists_of blk).nets (Keeps.nets-ok (lists_of blk) ok)
  few-of Kind.End = Keeps.members-few Kind.End (lists_of blk).ends (lists_of blk).nets (Keeps.ends-ok (lists_of blk) ok)

  pub few-all : (k : Kind) → count (area k blk) ≤ most k
  few-all k = omega (arith, few-of k, ap length (list-is k blk), length-list k blk)

  pub counted-ok : length blk ≡ BLOCK → Counted blk
  counted-ok h = record { long = h; few = few-all }

-- ---- the block before a change
module _ (blk : List ℕ) (hb : length blk ≡ BLOCK) (ok : ok_lists (lists_of blk) ≡ true) where
  count-list : (k : Kind) → length (list k (lists_of blk)) ≡ count (area k blk)
  count-list k = ap length (list-is k blk) ∙ length-list k blk

  pub before-block : (e : Entry) → ok_lists (Before-of e (lists_of blk)) ≡ true → (length (block_before e blk) ≡ BLOCK) × (lists_of (block_before e blk) ≡ Before-of e (lists_of blk))
  unfolding block_before restored applies
  before-block (out k) b =
      let p = Entries.applied (out k) (lists_of blk) b in
      let h : 0 < length (list k (lists_of blk)) = ltb-true 0 (length (list k (lists_of blk))) p.0 in
      let c = counted-ok blk ok hb in
      let i : ℕ = count (area k blk) - 1 in
      let hi : i < count (area k blk) = omega (arith, h, count-list k) in
      let q : i ≡ length (list k (lists_of blk)) - 1 = omega (arith, count-list k) in (
        (counted-without k blk c i hi).long,
        lists-without k blk c i hi ∙ ap (λ (t : ℕ). with_list k (without t (list k (lists_of blk))) (lists_of blk)) q ∙ sym p.1,
      )
  before-block (back k i r) b =
      let p = Entries.applied (back k i r) (lists_of blk) b in
      let h : i ≤ length (list k (lists_of blk)) = leb-true i (length (list k (lists_of blk))) p.0 in
      let t : ok_record k r && eqb (add_number k (lists_of blk) (key r)) 0 ≡ true = sym (Entries.back-ok (lists_of blk) ok k i r) ∙ ap ok_lists (sym p.1) ∙ b in
      let c = counted-ok blk ok hb in
      let hi : i ≤ count (area k blk) = omega (arith, h, count-list k) in
      let hw = record-long k r (and_left (ok_record k r) _ t) in
      let z = eqb-true (add_number k (lists_of blk) (key r)) 0 (and_right (ok_record k r) _ t) in
      let room = room_0 k blk (room_of k blk (key r) _ refl z) in (
        long-at k blk c i hi r hw room,
        lists_at k blk c i hi r hw room ∙ sym p.1,
      )
  before-block none b = absurd (true≢false (sym (Entries.applied none (lists_of blk) b).0))

-- row i of a block is as wide as its kind
pub row-full : (k : Kind) (blk : List ℕ) → Counted blk → (i : ℕ) → i < count (area k blk) → length (get_or (list_of k blk) i []) ≡ width k
row-full k blk cnt i hi =
    ap length (row_words k blk cnt i hi)
    ∙ Seq.length-take-le (width k) (drop (start k + (1 + i * width k)) blk) (rw length-drop (omega (arith, row_inside k blk cnt i hi, cnt.long)))
