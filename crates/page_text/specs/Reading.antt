-- 01, 'Desk and page text': reading a page text first empties the lists, then adds its lines without copies; the first line that is malformed
-- or refused stops it with 16, its 1-based line and the inner number, and empties the lists again.
use Rattle.std.specs.Prelude.{ℕ, ◌+◌, List, [], ◌∷◌, ◌++◌, cond, eqb, Result, Ok, Err}
use Rattle.book.specs.declared.Kind.{Kind}
use Rattle.book.specs.Sizes.{IDS}
use Rattle.book.specs.Book.{Record, Lists, no_lists, take_number_in, with_record}
use Rattle.page_line.specs.Records.{Line, entry, malformed}
use Rattle.page_line.specs.Lines.{LINE, text_lines_in}
use Rattle.page_line.specs.Write.{line_text}

-- what a line gets on the lists: it goes, or it does not, with the inner number: its record's, or 0 if it is malformed, which is tested no further
abbrev pub Step : Type 0
Step = Result (Unit {0}) ℕ

unfoldable pub step_of : ℕ → Step
step_of n = cond (eqb n 0) (Ok tt) (Err n)

unfoldable pub takes_in : ℕ → Line → Lists → Step
takes_in top (entry k r) l = step_of (take_number_in top k r l)
takes_in top malformed l = Err 0

abbrev pub takes : Line → Lists → Step
takes = takes_in IDS

-- the lists with a line's record put last
unfoldable pub adds : Line → Lists → Lists
adds (entry k r) l = with_record k r l
adds malformed l = l

-- the number, the line, the inner number, and the lists
pub record Reading : Type 0 where
  pub number : ℕ
  pub line : ℕ
  pub inner : ℕ
  pub lists : Lists

abbrev pub accepted : Lists → Reading
accepted l = record { number = 0; line = 0; inner = 0; lists = l }

abbrev pub refused : ℕ → ℕ → Reading
refused line inner = record { number = 16; line = line; inner = inner; lists = no_lists }

unfoldable pub onward : Step → ℕ → Reading → Reading
onward (Ok x) line rest = rest
onward (Err inner) line rest = refused line inner

-- the lines behind the first n
unfoldable pub feed_in : ℕ → ℕ → Lists → List Line → Reading
feed_in top n l [] = accepted l
feed_in top n l (x ∷ xs) = onward (takes_in top x l) (n + 1) (feed_in top (n + 1) (adds x l) xs)

abbrev pub feed : ℕ → Lists → List Line → Reading
feed = feed_in IDS

-- a text, where a line has at most `line` bytes and ids go to `top`; 02, S-1: LINE and IDS
unfoldable pub read_in : ℕ → ℕ → List ℕ → Reading
read_in line top text = feed_in top 0 no_lists (text_lines_in line text)

abbrev pub read_text : List ℕ → Reading
read_text = read_in LINE IDS

-- lists as a page text, in kept order: boxes, ports, nets, ends
unfoldable pub lines_text : Kind → List Record → List ℕ
lines_text k [] = []
lines_text k (r ∷ rs) = line_text k r ++ lines_text k rs

unfoldable pub text_of_page : Lists → List ℕ
text_of_page l = lines_text Kind.Box l.boxes ++ (lines_text Kind.Port l.ports ++ (lines_text Kind.Net l.nets ++ lines_text Kind.End l.ends))
