-- Reading on a desk that is lent whole: it keeps the desk's length, and the lists that it leaves keep their limits.
use mathlib.Core.Path.{◌≡◌, refl, sym, ap, ◌∙◌}
use mathlib.Core.List.{List, [], ◌∷◌}
use mathlib.Core.Bool.{Bool, true, false, cond}
use Prim.Native.Nat.{ℕ, ◌+◌, ◌≤◌}
use lib.ListN.{length}
use lib.Dec.{eqb}
use Rattle.rows.specs.Rows.{key, scan}
use Rattle.desk.specs.Sizes.{DESK}
use Rattle.book.specs.Book.{Lists, no_lists, book_with, fields_number, ok_lists, ok_owners, ok_members, ok_copy, valid, add_number, take_number_in, take_number}
use Rattle.desk.specs.Desk.{Ready, block, emptied, taken, at0}
use Rattle.block.specs.Block.{lists_of}
use Rattle.desk.proofs.Decode.{length-emptied, ready-emptied}
use Rattle.book.proofs.Fields.{answer-0, record-of-0}
use Rattle.book.proofs.Keeps
use Rattle.page_line.specs.Records.{Line, entry, malformed}
use Rattle.page_line.specs.Lines.{text_lines}
use Rattle.page_line.proofs.Wide.{AllWide, wide-lines}
use Rattle.page_text.specs.Reading.{Step, step_of, takes_in, takes, adds, onward, feed_in, feed, read_in, read_text}
use Rattle.page_text.specs.Words.{leaves, onward_words, feed_words, text_words}
use Rattle.std.specs.Prelude.{Ok, Err}
use Rattle.page_text.proofs.Turns.{After, after, bad-went, step-0}

-- ---- the length
-- a line that stops the reading leaves the words as they were
pub left-bad : (x : Line) (ws : List ℕ) (n : ℕ) → takes x (lists_of (block ws)) ≡ Err n → leaves x ws ≡ ws
unfolding takes_in leaves step_of at0
left-bad (entry k r) ws n e = go (eqb (take_number k r (lists_of (block ws))) 0) e
  where
    go : (b : Bool) → ◌≡◌ {A = Step} (cond b (Ok tt) (Err (take_number k r (lists_of (block ws))))) (Err n) → cond b (taken k r ws) ws ≡ ws
    go true e = bad-went n (sym e)
    go false e = refl
left-bad malformed ws n e = refl

length-feed : (ws : List ℕ) (xs : List Line) → Ready ws → AllWide xs → length (feed_words ws xs) ≡ length ws
unfolding feed_words onward_words
length-feed ws [] ready w = refl
length-feed ws (x ∷ xs) ready w = go (takes x (lists_of (block ws))) refl (λ a. length-feed (leaves x ws) xs a.ready w.1)
  where
    go : (s : Step) → takes x (lists_of (block ws)) ≡ s → (After x ws (leaves x ws) → length (feed_words (leaves x ws) xs) ≡ length (leaves x ws))
        → length (onward_words s (leaves x ws) (feed_words (leaves x ws) xs)) ≡ length ws
    go (Ok v) t ih = let a = after x ws ready w.0 t in ih a ∙ a.long
    go (Err k) t ih = length-emptied (leaves x ws) ∙ ap length (left-bad x ws k t)

pub length-text : (text ws : List ℕ) → DESK ≤ length ws → length (text_words text ws) ≡ length ws
unfolding text_words
length-text text ws h = length-feed (emptied ws) (text_lines text) (ready-emptied ws h) (wide-lines text) ∙ length-emptied ws

-- ---- the limits
pub ok-adds : (x : Line) (l : Lists) → ok_lists l ≡ true → takes x l ≡ Ok tt → ok_lists (adds x l) ≡ true
unfolding takes_in adds take_number_in
ok-adds (entry k r) l ok e =
    let p = answer-0 true (fields_number k r) (add_number k l (key r)) (step-0 (take_number k r l) e) in
    Keeps.ok-with l ok k r (record-of-0 k r p.1) p.2
ok-adds malformed l ok e = bad-went 0 e

pub none-ok : ok_lists no_lists ≡ true
unfolding scan ok_lists ok_owners ok_members
none-ok = refl

ok-feed : (n : ℕ) (l : Lists) (xs : List Line) → ok_lists l ≡ true → ok_lists (feed n l xs).lists ≡ true
unfolding feed_in onward
ok-feed n l [] ok = ok
ok-feed n l (x ∷ xs) ok = go (takes x l) refl (ok-feed (n + 1) (adds x l) xs)
  where
    go : (s : Step) → takes x l ≡ s → (ok_lists (adds x l) ≡ true → ok_lists (feed (n + 1) (adds x l) xs).lists ≡ true)
        → ok_lists (onward s (n + 1) (feed (n + 1) (adds x l) xs)).lists ≡ true
    go (Ok v) t ih = ih (ok-adds x l ok t)
    go (Err k) t ih = none-ok

pub ok-text : (text : List ℕ) → ok_lists (read_text text).lists ≡ true
unfolding read_in
ok-text text = ok-feed 0 no_lists (text_lines text) none-ok

-- lists that keep their limits are a valid book
pub valid-lists : (l : Lists) → ok_lists l ≡ true → valid (book_with l) ≡ true
unfolding valid scan ok_copy
valid-lists l ok = rw ok
