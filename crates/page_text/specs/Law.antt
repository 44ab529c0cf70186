-- The statements about reading, each proved in proofs/.
use Rattle.std.specs.Prelude.{ℕ, ◌+◌, ◌*◌, ◌≤◌, ◌≡◌, List, [], ◌∷◌, ◌++◌, true, length, take, Ok, Err}
use Rattle.desk.specs.Sizes.{DESK}
use Rattle.book.specs.Book.{Lists, no_lists, book_with, ok_lists}
use Rattle.desk.specs.Desk.{book_of}
use Rattle.page_line.specs.Records.{Line}
use Rattle.page_line.specs.Lines.{LINE, text_lines}
use Rattle.page_text.specs.Reading.{takes, adds, accepted, refused, read_text, text_of_page}
use Rattle.page_text.specs.Words.{text_words}

-- every line goes, one behind another, from the lists l to the lists m
pub data Goes : Lists → List Line → Lists → Type 0 where
  none : {l : Lists} → Goes l [] l
  one : {l m : Lists} {x : Line} {xs : List Line} → takes x l ≡ Ok tt → Goes (adds x l) xs m → Goes l (x ∷ xs) m

-- a text is accepted exactly if all its lines go
abbrev pub Accepts : Type 0
Accepts = (text : List ℕ) (m : Lists) → Goes no_lists (text_lines text) m → read_text text ≡ accepted m

abbrev pub Accepted : Type 0
Accepted = (text : List ℕ) → (read_text text).number ≡ 0 → Goes no_lists (text_lines text) (read_text text).lists

-- the first bad line: those before it go, and it does not
pub record FirstBad (lines : List Line) (line inner : ℕ) : Type 0 where
  pub good : List Line
  pub bad : Line
  pub rest : List Line
  pub lists : Lists
  pub whole : lines ≡ good ++ (bad ∷ rest)
  pub place : line ≡ length good + 1
  pub goes : Goes no_lists good lists
  pub stops : takes bad lists ≡ Err inner

-- a text is refused exactly at its first bad line
abbrev pub Refuses : Type 0
Refuses = (text : List ℕ) (line inner : ℕ) → FirstBad (text_lines text) line inner → read_text text ≡ refused line inner

abbrev pub Refused : Type 0
Refused = (text : List ℕ) → (read_text text).number ≡ 16 → FirstBad (text_lines text) (read_text text).line (read_text text).inner

-- there is no third number
abbrev pub Numbers : Type 0
Numbers = (text : List ℕ) → ((read_text text).number ≡ 0 → ⊥) → (read_text text).number ≡ 16

-- the desk holds the lists that were read, and nothing to undo
abbrev pub Decoded : Type 0
Decoded = (text ws : List ℕ) → DESK ≤ length ws → book_of (text_words text ws) ≡ book_with (read_text text).lists

-- what is written of valid lists is read back
abbrev pub RoundTrip : Type 0
RoundTrip = (l : Lists) → ok_lists l ≡ true → read_text (text_of_page l) ≡ accepted l

-- 01, 'Limits', and 02, S-1: at most 640 records fit, and a line has at most 96 bytes, so that what stands behind 641 such lines has no say
abbrev pub TEXT : ℕ
TEXT = 641 * LINE

abbrev pub Decides : Type 0
Decides = (text : List ℕ) → read_text (take TEXT text) ≡ read_text text
