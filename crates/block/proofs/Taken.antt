-- What the test of an undo entry answers on a block, and what it leaves.
--     out_answer, back_answer       an addition and a retirement undone
use mathlib.Core.Path.{◌≡◌, refl, ap, ◌∙◌}
use mathlib.Core.List.{List}
use mathlib.Core.Bool.{Bool, true, false, not, cond, ◌&&◌, true≢false}
use Prim.Native.Nat.{ℕ, ◌-◌, ◌<◌}
use native.Mathlib.Omega.{arith}
use lib.ListN.{length}
use Rattle.std.proofs.Common.{Result, Ok, Err}
use Rattle.std.specs.Result.{is_err}
use Rattle.book.specs.Refusals.{number_of}
use Rattle.book.specs.declared.Refusal.{Refusal}
use lib.Dec.{eqb, ltb, leb}
use borrow.Author.Tests.{ltb-true}
use Rattle.rows.specs.Rows.{count}
use Rattle.block.specs.Sizes.{BLOCK}
use Rattle.book.specs.Book.{Record, list, ok_lists, room_number, take_number}
use Rattle.book.specs.Entries.{out, back, applies, restored, no_desk, before, is_held}
use Rattle.block.specs.Block.{area, list_of, lists_of, Counted}
use Rattle.book.specs.declared.Kind.{Kind}
use Rattle.block.proofs.Blocks
use Rattle.book.proofs.Fields.{takes}
use Rattle.book.proofs.Entries
use Rattle.block.proofs.Lists

module _ (k : Kind) (blk : List ℕ) (hb : length blk ≡ BLOCK) (ok : ok_lists (lists_of blk) ≡ true) where
  pub counted : Counted blk
  counted = Lists.counted-ok blk ok hb

  here : length (list k (lists_of blk)) ≡ count (area k blk)
  here = ap length (Lists.list-is k blk) ∙ Blocks.length-list k blk

  -- an addition undone: there is a last record, and nothing belongs to it
  pub out_answer : ok_lists (before (out k) (lists_of blk)) ≡ ltb 0 (count (area k blk)) && not (is_held k (lists_of blk) (count (area k blk) - 1))
  unfolding before applies
  out_answer = rw here (go (ltb 0 (count (area k blk))) refl)
    where
      go : (b : Bool) → ltb 0 (count (area k blk)) ≡ b
          → ok_lists (cond b (restored (out k) (lists_of blk)) no_desk) ≡ b && not (is_held k (lists_of blk) (count (area k blk) - 1))
      go true t =
          let h : 0 < length (list k (lists_of blk)) = omega (arith, here, ltb-true 0 (count (area k blk)) t) in
          Entries.out-ok (lists_of blk) ok k h ∙ ap (λ (t : ℕ). not (is_held k (lists_of blk) (t - 1))) here
      go false t = Entries.no-desk

  -- a retirement undone: the place is there, and the record could be added
  pub back_answer : (i : ℕ) (r : Record) → ok_lists (before (back k i r) (lists_of blk)) ≡ leb i (count (area k blk)) && eqb (take_number k r (lists_of blk)) 0
  unfolding before applies
  back_answer i r = rw here (go (leb i (count (area k blk))))
    where
      go : (b : Bool) → ok_lists (cond b (restored (back k i r) (lists_of blk)) no_desk) ≡ b && eqb (take_number k r (lists_of blk)) 0
      go true = Entries.back-ok (lists_of blk) ok k i r ∙ takes k r (lists_of blk)
      go false = Entries.no-desk

pub back_room : {T : Type 0} (k : Kind) (blk : List ℕ) (r : Record) (added : Result T Refusal) → number_of added ≡ take_number k r (lists_of blk) → is_err added ≡ false
    → room_number k (list_of k blk) ≡ 0
back_room k blk r (Ok x) e f = Blocks.take-room k blk r _ e refl
back_room k blk r (Err x) e f = absurd (true≢false f)
