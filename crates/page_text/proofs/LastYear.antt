-- Limits that rise: a line that goes, goes under greater limits too, and is the same line.
use mathlib.Core.Path.{◌≡◌, refl, ap, ◌∙◌}
use mathlib.Core.List.{List, [], ◌∷◌}
use mathlib.Core.Bool.{Bool, true, false, cond}
use Prim.Native.Nat.{ℕ, ◌+◌, ◌≤◌}
use native.Mathlib.Omega.{arith}
use lib.ListN.{length}
use lib.Dec.{ltb}
use borrow.Author.Tests.{lt-ltb, ltb-true}
use Rattle.decimals.specs.Bytes.{LF, split}
use Rattle.decimals.specs.Decimal.{is_empty}
use Rattle.book.specs.Sizes.{IDS}
use Rattle.book.specs.Book.{Lists, no_lists, book_with, take_number_in}
use Rattle.book.proofs.Fields.{take-rises}
use Rattle.page_line.specs.Records.{Line, entry, malformed, line_of}
use Rattle.page_line.specs.Lines.{LINE, ended_in, lines_in, text_lines_in}
use Rattle.page_text.specs.Reading.{Step, Reading, step_of, takes_in, adds, accepted, onward, feed_in, read_in, read_text}
use Rattle.page_text.specs.Words.{read_number, read_words, read_refusal}
use Rattle.page_text.specs.LastYear.{LastYear, ThisYear, Rises, LastYearCall}
use Rattle.std.specs.Prelude.{Ok, Err}
use Rattle.page_text.proofs.First.{accepts, accepted-goes}
use Rattle.page_text.proofs.Told.{both-lent, told_none}
use Rattle.page_text.proofs.Turns.{step-0, decoded}

module _ (line line' top top' : ℕ) (hl : line ≤ line') (ht : top ≤ top') where
  takes-rises : (x : Line) (l : Lists) → takes_in top x l ≡ Ok tt → takes_in top' x l ≡ Ok tt
  unfolding takes_in step_of
  takes-rises (entry k r) l e = rw (take-rises top top' ht k r l (step-0 (take_number_in top k r l) e))
  takes-rises malformed l e = e

  -- lines that begin alike, where the rest is the same reading
  line-rises : (x : Line) (n : ℕ) (l : Lists) (xs ys : List Line)
      → ((feed_in top (n + 1) (adds x l) xs).number ≡ 0 → feed_in top' (n + 1) (adds x l) ys ≡ feed_in top (n + 1) (adds x l) xs)
      → (feed_in top n l (x ∷ xs)).number ≡ 0 → feed_in top' n l (x ∷ ys) ≡ feed_in top n l (x ∷ xs)
  unfolding feed_in onward
  line-rises x n l xs ys ih e = go (takes_in top x l) refl e
    where
      go : (s : Step) → takes_in top x l ≡ s → (onward s (n + 1) (feed_in top (n + 1) (adds x l) xs)).number ≡ 0
          → onward (takes_in top' x l) (n + 1) (feed_in top' (n + 1) (adds x l) ys) ≡ onward s (n + 1) (feed_in top (n + 1) (adds x l) xs)
      go (Ok v) t e = rw (takes-rises x l t) (ih e)
      go (Err k) t e = absurd (omega arith)

  feed-rises : (n : ℕ) (l : Lists) (ps : List (List ℕ)) → (feed_in top n l (lines_in line ps)).number ≡ 0
      → feed_in top' n l (lines_in line' ps) ≡ feed_in top n l (lines_in line ps)
  unfolding lines_in ended_in feed_in onward takes_in
  feed-rises n l [] e = refl
  feed-rises n l (p ∷ []) e = go (is_empty p)
    where
      go : (b : Bool) → feed_in top' n l (cond b [] (malformed ∷ [])) ≡ feed_in top n l (cond b [] (malformed ∷ []))
      go true = refl
      go false = refl
  feed-rises n l (p ∷ q ∷ ps) e = go (ltb (length p) line) refl e (feed-rises (n + 1) (adds (line_of p) l) (q ∷ ps))
    where
      go : (b : Bool) → ltb (length p) line ≡ b → (feed_in top n l (cond b (line_of p) malformed ∷ lines_in line (q ∷ ps))).number ≡ 0
          → ((feed_in top (n + 1) (adds (line_of p) l) (lines_in line (q ∷ ps))).number ≡ 0
          → feed_in top' (n + 1) (adds (line_of p) l) (lines_in line' (q ∷ ps)) ≡ feed_in top (n + 1) (adds (line_of p) l) (lines_in line (q ∷ ps)))
          → feed_in top' n l (cond (ltb (length p) line') (line_of p) malformed ∷ lines_in line' (q ∷ ps)) ≡ feed_in top n l (cond b (line_of p) malformed ∷ lines_in line (q ∷ ps))
      go true h e ih = rw (lt-ltb (length p) line' (omega (arith, ltb-true (length p) line h))) (line-rises (line_of p) n l (lines_in line (q ∷ ps)) (lines_in line' (q ∷ ps)) ih e)
      go false h e ih = absurd (omega arith)

pub rises : Rises
unfolding read_in text_lines_in
rises line line' top top' hl ht text e = feed-rises line line' top top' hl ht 0 no_lists (split LF text) e

pub last-year : LastYear
last-year text e = rises 64 LINE 65535 IDS (omega arith) (omega arith) text e

pub this-year : ThisYear
this-year text = refl

-- ---- of the call
pub last-year-call : LastYearCall
unfolding read_number read_words read_refusal
last-year-call text ws out hd hr e =
    let same = last-year text e in
    let zero-now : (read_text text).number ≡ 0 = ap (λ (r : Reading). r.number) same ∙ e in
    let whole : read_text text ≡ accepted (read_text text).lists = accepts text (read_text text).lists (accepted-goes text zero-now) in
    let lent = both-lent ws out hd hr in
    record {
      number_is = rw lent zero-now;
      book_is = rw lent (decoded text ws hd ∙ ap (λ (r : Reading). book_with r.lists) same);
      refusal_is = rw (lent, ap (λ (r : Reading). r.line) whole, ap (λ (r : Reading). r.inner) whole) (told_none (length out) hr);
    }
