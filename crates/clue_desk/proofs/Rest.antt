-- A reading of a text keeps the words of a desk past its size.
use mathlib.Core.Path.{◌≡◌, refl, ap, ◌∙◌}
use mathlib.Core.List.{List, [], ◌∷◌}
use mathlib.Core.Bool.{Bool, true, false, cond, ◌&&◌}
use Prim.Native.Nat.{ℕ, ◌+◌, ◌<◌, ◌≤◌}
use native.Mathlib.Omega.{arith}
use lib.ListN.{length, drop, set}
use lib.Dec.{leb}
use lib.Seq.{drop-set-lt}
use borrow.Author.Tests.{leb-true}
use Rattle.fixed.proofs.Bools.{and_left}
use Rattle.rows.specs.Rows.{count}
use Rattle.rows.proofs.Parts
use Rattle.desk.specs.Sizes.{DESK}
use Rattle.block.specs.Sizes.{BLOCK, PORTS_AT, NETS_AT, ENDS_AT}
use Rattle.book.specs.Book.{Record, width, most, take_number}
use Rattle.desk.specs.Desk.{Ready, block, with_block, emptied, taken, at0}
use Rattle.block.specs.Block.{area, lists_of, with_row}
use Rattle.book.specs.declared.Kind.{Kind}
use Rattle.block.proofs.Blocks.{room_0, take-room}
use Rattle.block.proofs.Lists.{counted-with}
use Rattle.desk.proofs.Decode.{ready-emptied}
use Rattle.page_line.specs.Records.{Line, entry, malformed}
use Rattle.page_line.specs.Lines.{text_lines}
use Rattle.page_line.proofs.Wide.{Wide, AllWide, wide-lines}
use Rattle.page_text.specs.Reading.{Step, takes_in, takes}
use Rattle.page_text.specs.Words.{leaves, onward_words, feed_words, text_words, is_lent, read_words, REFUSAL}
use Rattle.std.specs.Prelude.{Ok, Err}
use Rattle.page_text.proofs.Turns.{After, after, bad-went, step-0}
use Rattle.page_text.proofs.Limits.{left-bad}

behind : (l : List ℕ) (i : ℕ) → i < DESK → drop DESK (set l i 0) ≡ drop DESK l
behind l i h = drop-set-lt DESK l i 0 h

rest-emptied : (ws : List ℕ) → drop DESK (emptied ws) ≡ drop DESK ws
unfolding emptied
rest-emptied ws =
    behind (set (set (set (set ws 0 0) 1 0) (1 + PORTS_AT) 0) (1 + NETS_AT) 0) (1 + ENDS_AT) (omega arith)
    ∙ behind (set (set (set ws 0 0) 1 0) (1 + PORTS_AT) 0) (1 + NETS_AT) (omega arith)
    ∙ behind (set (set ws 0 0) 1 0) (1 + PORTS_AT) (omega arith) ∙ behind (set ws 0 0) 1 (omega arith) ∙ behind ws 0 (omega arith)

-- a record that is added without a copy changes the lists' block alone
module _ (k : Kind) (r : Record) (ws : List ℕ) (ready : Ready ws) (hw : length r ≡ width k) (e : take_number k r (lists_of (block ws)) ≡ 0) where
  has_room : count (area k (block ws)) < most k
  has_room = room_0 k (block ws) (take-room k (block ws) r _ refl e)

  rest-taken : drop DESK (leaves (entry k r) ws) ≡ drop DESK ws
  unfolding leaves at0 taken with_block
  rest-taken =
      let h = ready.long in
      rw e
      (Parts.put_rest 1 BLOCK (with_row k r (block ws)) ws (counted-with k (block ws) ready.counted r hw has_room).long (omega arith) DESK (omega arith))

rest-line : (x : Line) (ws : List ℕ) → Ready ws → Wide x → takes x (lists_of (block ws)) ≡ Ok tt → drop DESK (leaves x ws) ≡ drop DESK ws
unfolding takes_in
rest-line (entry k r) ws ready hw t = rest-taken k r ws ready hw (step-0 (take_number k r (lists_of (block ws))) t)
rest-line malformed ws ready hw t = bad-went 0 t

rest-feed : (ws : List ℕ) (xs : List Line) → Ready ws → AllWide xs → drop DESK (feed_words ws xs) ≡ drop DESK ws
unfolding feed_words onward_words
rest-feed ws [] ready w = refl
rest-feed ws (x ∷ xs) ready w = go (takes x (lists_of (block ws))) refl (λ a. rest-feed (leaves x ws) xs a.ready w.1)
  where
    go : (s : Step) → takes x (lists_of (block ws)) ≡ s → (After x ws (leaves x ws) → drop DESK (feed_words (leaves x ws) xs) ≡ drop DESK (leaves x ws))
        → drop DESK (onward_words s (leaves x ws) (feed_words (leaves x ws) xs)) ≡ drop DESK ws
    go (Ok v) t ih = ih (after x ws ready w.0 t) ∙ rest-line x ws ready w.0 t
    go (Err n) t ih = rest-emptied (leaves x ws) ∙ ap (drop DESK) (left-bad x ws n t)

rest-text : (text ws : List ℕ) → DESK ≤ length ws → drop DESK (text_words text ws) ≡ drop DESK ws
unfolding text_words
rest-text text ws h = rest-feed (emptied ws) (text_lines text) (ready-emptied ws h) (wide-lines text) ∙ rest-emptied ws

-- a desk longer than its size keeps the rest, whatever is read onto it and however much of the refusal is lent
pub rest_read : (text ws out : List ℕ) → drop DESK (read_words text ws out) ≡ drop DESK ws
unfolding read_words is_lent
rest_read text ws out = go (leb DESK (length ws) && leb REFUSAL (length out)) refl
  where
    go : (b : Bool) → (leb DESK (length ws) && leb REFUSAL (length out)) ≡ b → drop DESK (cond b (text_words text ws) ws) ≡ drop DESK ws
    go true q = rest-text text ws (leb-true DESK (length ws) (and_left _ _ q))
    go false q = refl
