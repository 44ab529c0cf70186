-- What a change leaves.
--     keeps           a book keeps its limits
--     stands-for      the words after a call that gets 0 stand for the book that it makes
--     refused, rest   a refusal changes nothing; a desk longer than its size keeps the rest
use mathlib.Core.Path.{◌≡◌, refl, sym, ap, ◌∙◌}
use mathlib.Core.List.{List, []}
use mathlib.Core.Bool.{Bool, true, false, cond}
use Prim.Native.Nat.{ℕ, zero, suc, ◌-◌, ◌≤◌, ◌<◌}
use native.Mathlib.Omega.{arith}
use lib.ListN.{length, get_or, drop}
use lib.Dec.{leb, eqb}
use borrow.Author.Tests.{ne_eqb, eqb-true, leb-true}
use Rattle.rows.specs.Rows.{key, without}
use Rattle.book.specs.Sizes.{COPIES}
use Rattle.block.specs.Sizes.{BLOCK}
use Rattle.desk.specs.Sizes.{ENTRY, DESK}
use Rattle.book.specs.Book.{Record, Lists, Book, seen, list, with_list, width, fields_number, name_number, ok_lists, valid, change, add_number, retire_number, spot, with_record, without_record}
use Rattle.block.specs.Block.{list_of, lists_of, Counted, with_row, without_row, block_before}
use Rattle.desk.specs.Desk.{out_words, back_words, entry_of, block, with_block, book_of, seen_of, laid, latest, unlaid, sized, at0}
use Rattle.book.specs.Entries.{Entry, back, before}
use Rattle.desk.specs.Calls.{Call, says, does, makes, retired, number, words}
use Rattle.desk.specs.Calls.Call.{add, retire, undo}
use Rattle.book.proofs.Fields.{answer-0, record-long, record-of-0}
use Rattle.block.proofs.Blocks
use Rattle.block.proofs.Lists
use Rattle.desk.proofs.Valid
use Rattle.desk.proofs.Whole.{depth_is}
use Rattle.desk.proofs.Decode
use Rattle.desk.proofs.Words
use Rattle.book.proofs.Keeps
use Rattle.book.proofs.Entries

-- ---- what a number 0 says
pile-0 : (n : ℕ) → ◌≡◌ {A = ℕ} (cond (eqb n 0) 7 0) 0 → 0 < n
pile-0 zero e = absurd (omega (arith, e))
pile-0 (suc n) e = omega arith

-- a book keeps its limits
pub keeps : (b : Book) (c : Call) → valid b ≡ true → says c (seen b) ≡ 0 → valid (makes c b) ≡ true
keeps b (add k r) v e =
    let p = answer-0 (valid b) (fields_number k r) (add_number k b.lists (key r)) e in
    Keeps.valid-change b v (with_record k r b.lists) (Keeps.ok-with b.lists (Keeps.lists-ok b v) k r (record-of-0 k r p.1) p.2)
keeps b (retire k name) v e =
    let p = answer-0 (valid b) (name_number k name) (retire_number k b.lists name) e in
    Keeps.valid-change b v (without_record k name b.lists) (Keeps.ok-without b.lists (Keeps.lists-ok b v) k name p.2)
keeps b undo v e = Keeps.valid-back b v

-- ---- the words after a call that gets 0 stand for the book that it makes
module _ (ws : List ℕ) (h : DESK ≤ length ws) (v : valid (book_of ws) ≡ true) where
  cnt : Counted (block ws)
  cnt = record { long = Decode.block-long ws h; few = Lists.few-all (block ws) (Valid.head_ok ws v) }

  pub latest-there : says undo (seen_of ws) ≡ 0 → (0 < get_or ws 0 0) × (ok_lists (before (entry_of (latest ws)) (lists_of (block ws))) ≡ true)
  latest-there e =
      let p = answer-0 (valid (book_of ws)) 0 (cond (eqb (length (book_of ws).pile) 0) 7 0) e in
      let z = pile-0 (length (book_of ws).pile) p.2 in
      let s : 0 < get_or ws 0 0 = omega (arith, z, depth_is ws) in
      (s, Valid.latest-ok ws h v (omega arith))

  shallow : get_or ws 0 0 ≤ COPIES
  shallow = omega (arith, depth_is ws, Keeps.shallow (book_of ws) v)

  by-block : (e blk : List ℕ) (l : Lists) → length e ≡ ENTRY → length blk ≡ BLOCK → lists_of blk ≡ l → before (entry_of e) l ≡ lists_of (block ws)
      → (length (with_block blk (laid e ws)) ≡ length ws) × (book_of (with_block blk (laid e ws)) ≡ change (book_of ws) l)
  by-block e blk l he hb f q = (
    Decode.length-with (laid e ws) (rw (Decode.length-laid ws h e he) h) blk hb ∙ Decode.length-laid ws h e he,
    Decode.book-changed ws h e he blk hb (ap (before (entry_of e)) f ∙ q) ∙ ap (change (book_of ws)) f,
  )

  pub stands-for : (c : Call) → says c (seen_of ws) ≡ 0 → (length (does c ws) ≡ length ws) × (book_of (does c ws) ≡ makes c (book_of ws))
  unfolding book_of without_record retired
  stands-for (add k r) e =
      let p = answer-0 (valid (book_of ws)) (fields_number k r) (add_number k (lists_of (block ws)) (key r)) e in
      let hw = record-long k r (record-of-0 k r p.1) in
      let room = Blocks.room_0 k (block ws) (Blocks.room_of k (block ws) (key r) _ refl p.2) in
      by-block (out_words k) (with_row k r (block ws)) (with_record k r (lists_of (block ws))) (Words.long-out k) (Lists.counted-with k (block ws) cnt r hw room).long
      (Lists.lists-with k (block ws) cnt r hw room)
      (ap (λ (t : Entry). before t (with_record k r (lists_of (block ws)))) (Words.entry-out k) ∙ Entries.before-added k r (lists_of (block ws)))
  stands-for (retire k name) e =
      let p = answer-0 (valid (book_of ws)) (name_number k name) (retire_number k (lists_of (block ws)) name) e in
      let i : ℕ = spot k (lists_of (block ws)) name in
      let hi = Blocks.spot_in k (block ws) name _ refl p.2 in
      let l : Lists = lists_of (block ws) in
      let r : Record = get_or (list_of k (block ws)) i [] in
      let hr : length r ≡ width k = Lists.row-full k (block ws) cnt i hi in
      let il : i < length (list k l) = omega (arith, hi, ap length (Lists.list-is k (block ws)), Blocks.length-list k (block ws)) in
      by-block (back_words k i r) (without_row k i (block ws)) (with_list k (without i (list k l)) l) (Words.long-back k i r hr) (Lists.counted-without k (block ws) cnt i hi).long
      (Lists.lists-without k (block ws) cnt i hi)
      (ap (λ (t : Entry). before t (with_list k (without i (list k l)) l)) (Words.entry-back k i r hr)
      ∙ ap (λ (t : List Record). before (back k i (get_or t i [])) (with_list k (without i (list k l)) l)) (sym (Lists.list-is k (block ws)))
      ∙ Entries.before-retired k i l il)
  stands-for undo e =
      let u = latest-there e in
      let d : ℕ = get_or ws 0 0 - 1 in
      let ed : get_or ws 0 0 ≡ suc d = omega (arith, u.0) in
      let q = Lists.before-block (block ws) (Decode.block-long ws h) (Valid.head_ok ws v) (entry_of (latest ws)) u.1 in (
        Decode.length-with (unlaid ws) (rw (Decode.length-unlaid ws h) h) (block_before (entry_of (latest ws)) (block ws)) q.0 ∙ Decode.length-unlaid ws h,
        Decode.book-undone ws h d ed (omega (arith, shallow)) (block_before (entry_of (latest ws)) (block ws)) q.0 q.1,
      )

-- ---- what is left where nothing is said
-- a refusal changes nothing
pub refused : (c : Call) (ws : List ℕ) → (number c ws ≡ 0 → ⊥) → words c ws ≡ ws
unfolding at0
refused c ws h = rw (ne_eqb (number c ws) 0 h)

sized-0 : (ws : List ℕ) (n : ℕ) → sized ws n ≡ 0 → (DESK ≤ length ws) × (n ≡ 0)
unfolding sized
sized-0 ws n e = go (leb DESK (length ws)) refl e
  where
    go : (b : Bool) → leb DESK (length ws) ≡ b → cond b n 1 ≡ 0 → (DESK ≤ length ws) × (n ≡ 0)
    go true t e = (leb-true DESK (length ws) t, e)
    go false t e = absurd (omega arith)

rest-done : (ws : List ℕ) → DESK ≤ length ws → (c : Call) → says c (seen_of ws) ≡ 0 → drop DESK (does c ws) ≡ drop DESK ws
unfolding book_of retired
rest-done ws h (add k r) e =
    let p = answer-0 (valid (book_of ws)) (fields_number k r) (add_number k (lists_of (block ws)) (key r)) e in
    let room = Blocks.room_0 k (block ws) (Blocks.room_of k (block ws) (key r) _ refl p.2) in
    Decode.rest-with ws h (out_words k) (Words.long-out k) (with_row k r (block ws)) (Lists.counted-with k (block ws) (cnt ws h p.0) r (record-long k r (record-of-0 k r p.1)) room).long
rest-done ws h (retire k name) e =
    let p = answer-0 (valid (book_of ws)) (name_number k name) (retire_number k (lists_of (block ws)) name) e in
    let i : ℕ = spot k (lists_of (block ws)) name in
    let hi = Blocks.spot_in k (block ws) name _ refl p.2 in
    let c = cnt ws h p.0 in
    let r : Record = get_or (list_of k (block ws)) i [] in
    Decode.rest-with ws h (back_words k i r) (Words.long-back k i r (Lists.row-full k (block ws) c i hi)) (without_row k i (block ws)) (Lists.counted-without k (block ws) c i hi).long
rest-done ws h undo e =
    let v = (answer-0 (valid (book_of ws)) 0 (cond (eqb (length (book_of ws).pile) 0) 7 0) e).0 in
    let u = latest-there ws h v e in
    Decode.rest-unlaid ws h (block_before (entry_of (latest ws)) (block ws)) (Lists.before-block (block ws) (Decode.block-long ws h) (Valid.head_ok ws v) (entry_of (latest ws)) u.1).0

-- a desk longer than its size keeps the rest
pub rest : (c : Call) (ws : List ℕ) → drop DESK (words c ws) ≡ drop DESK ws
unfolding at0
rest c ws = go (eqb (number c ws) 0) refl
  where
    go : (b : Bool) → eqb (number c ws) 0 ≡ b → drop DESK (cond b (does c ws) ws) ≡ drop DESK ws
    go true t =
        let p = sized-0 ws (says c (seen_of ws)) (eqb-true (number c ws) 0 t) in
        rest-done ws p.0 c p.1
    go false t = refl
