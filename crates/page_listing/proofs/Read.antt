-- A text that was read: the desk holds a valid page with the lists of the text, or the refusal's words tell where it stopped.
use mathlib.Core.Path.{◌≡◌, sym, ap, ◌∙◌}
use mathlib.Core.Bool.{Bool, true}
use mathlib.Core.List.{List}
use Prim.Native.Nat.{ℕ, ◌≤◌}
use borrow.Author.Tests.{eq-eqb, ne_eqb}
use lib.ListN.{length, get_or}
use Rattle.desk.specs.Sizes.{DESK}
use Rattle.book.specs.Book.{book_with, Book, valid}
use Rattle.desk.specs.Desk.{book_of}
use Rattle.page_text.specs.Reading.{read_text}
use Rattle.page_text.specs.Words.{REFUSAL, is_lent, read_number, read_words, read_refusal, told}
use Rattle.page_text.proofs.Told.{both-lent}
use Rattle.page_text.proofs.Turns.{decoded}
use Rattle.page_text.proofs.Limits.{ok-text, valid-lists}
use Rattle.decimals.specs.Write.{Put}
use Rattle.listing.specs.Listing.{refused_line}
use Rattle.page_listing.specs.Printed.{page_printed, read_printed, printed}

module _ (text ws out : List ℕ) (long : DESK ≤ length ws) (two : REFUSAL ≤ length out) (n : ℕ) (ws₁ out₁ : List ℕ) (is : n ≡ read_number text ws out) (leaves : ws₁ ≡ read_words text ws out)
    (tells : out₁ ≡ read_refusal text ws out) where
  lent : is_lent ws out ≡ true
  lent = both-lent ws out long two

  number_is : n ≡ (read_text text).number
  unfolding read_number
  number_is = is ∙ rw lent

  book_is : book_of ws₁ ≡ book_with (read_text text).lists
  unfolding read_words
  book_is = ap book_of (leaves ∙ rw lent) ∙ decoded text ws long

  pub book-valid : valid (book_of ws₁) ≡ true
  book-valid = rw book_is (valid-lists (read_text text).lists (ok-text text))

  lists-are : (book_of ws₁).lists ≡ (read_text text).lists
  lists-are = ap (λ (b : Book). b.lists) book_is

  told_is : out₁ ≡ told (read_text text).line (read_text text).inner (length out)
  unfolding read_refusal
  told_is = tells ∙ rw lent

  line_is : get_or out₁ 0 0 ≡ (read_text text).line
  unfolding told
  line_is = ap (λ (m : List ℕ). get_or m 0 0) told_is

  inner-is : get_or out₁ 1 0 ≡ (read_text text).inner
  unfolding told
  inner-is = ap (λ (m : List ℕ). get_or m 1 0) told_is

  module _ (pruned apart : Bool) (buf w : List ℕ) (r : ℕ) where
    pub refused-printed : (n ≡ 0 → ⊥) → Put buf 0 (refused_line (get_or out₁ 0 0) (get_or out₁ 1 0)) w r → Put buf 0 (printed pruned apart text) w r
    unfolding printed read_printed
    refused-printed h p = rw (ne_eqb (read_text text).number 0 (λ z. h (number_is ∙ z)), ← line_is, ← inner-is) p

    pub page-printed : n ≡ 0 → Put buf 0 (page_printed pruned apart (book_of ws₁).lists) w r → Put buf 0 (printed pruned apart text) w r
    unfolding printed read_printed
    page-printed h p = rw (eq-eqb (read_text text).number 0 (sym number_is ∙ h), ← lists-are) p
