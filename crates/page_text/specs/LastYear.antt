-- 02, S-1: 'page texts accepted last year are read as before'.
use Rattle.std.specs.Prelude.{ℕ, ◌≤◌, ◌≡◌, List, length, replicate}
use Rattle.book.specs.Book.{book_with}
use Rattle.desk.specs.Sizes.{DESK}
use Rattle.desk.specs.Desk.{book_of}
use Rattle.page_text.specs.Reading.{Reading, read_in, read_text}
use Rattle.page_text.specs.Words.{REFUSAL, read_number, read_words, read_refusal}

-- last year's limits: lines of 64 bytes, and ids to 65,535
abbrev pub last_year : List ℕ → Reading
last_year = read_in 64 65535

-- what was accepted is the same reading now
abbrev pub LastYear : Type 0
LastYear = (text : List ℕ) → (last_year text).number ≡ 0 → read_text text ≡ last_year text

-- 'ids run from 1 to 4,294,967,295', 'the line limit rises to 96 bytes'
abbrev pub ThisYear : Type 0
ThisYear = (text : List ℕ) → read_text text ≡ read_in 96 4294967295 text

-- whatever the limits are, what is accepted is the same reading where they rise
abbrev pub Rises : Type 0
Rises =
    (line line' top top' : ℕ) → line ≤ line' → top ≤ top' → (text : List ℕ)
    → (read_in line top text).number ≡ 0 → read_in line' top' text ≡ read_in line top text

-- of the call: 0, a desk with last year's lists and nothing to undo, and no line told
pub record ReadAsBefore (text ws out : List ℕ) : Type 0 where
  pub number_is : read_number text ws out ≡ 0
  pub book_is : book_of (read_words text ws out) ≡ book_with (last_year text).lists
  pub refusal_is : read_refusal text ws out ≡ replicate (length out) 0

abbrev pub LastYearCall : Type 0
LastYearCall = (text ws out : List ℕ) → DESK ≤ length ws → REFUSAL ≤ length out → (last_year text).number ≡ 0 → ReadAsBefore text ws out
