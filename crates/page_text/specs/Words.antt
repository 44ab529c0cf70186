-- 01, 'Desk and page text' and 'Numbers handed back': what reading hands back and leaves in the lent memory.
use Rattle.std.specs.Prelude.{ℕ, ◌-◌, List, [], ◌∷◌, Bool, cond, ◌&&◌, length, replicate, eqb, leb, Result, Ok, Err}
use Rattle.desk.specs.Sizes.{DESK}
use Rattle.book.specs.Book.{take_number}
use Rattle.block.specs.Block.{lists_of}
use Rattle.desk.specs.Desk.{block, taken, emptied, at0}
use Rattle.page_line.specs.Records.{Line, entry, malformed}
use Rattle.page_line.specs.Lines.{text_lines}
use Rattle.book.specs.Refusals.{code}
use Rattle.page_text.specs.Reading.{Step, Reading, takes, read_text}
use Rattle.page_text.specs.declared.Stop.{Stop}
use Rattle.page_text.specs.declared.BadLine.{BadLine}
use Rattle.page_text.specs.declared.BadLine.TheVariants.{Malformed, Refused}

-- the inner number of a line that does not go, and what a line got
abbrev pub inner_of : BadLine → ℕ
inner_of Malformed = 0
inner_of (Refused refusal) = code refusal

abbrev pub step_made : Result (Unit {0}) BadLine → Step
step_made (Ok x) = Ok x
step_made (Err bad) = Err (inner_of bad)

-- the desk's words behind a line: its record put last if its number is 0
unfoldable pub leaves : Line → List ℕ → List ℕ
leaves (entry k r) ws = at0 (take_number k r (lists_of (block ws))) (taken k r ws) ws
leaves malformed ws = ws

unfoldable pub onward_words : Step → List ℕ → List ℕ → List ℕ
onward_words (Ok x) ws rest = rest
onward_words (Err inner) ws rest = emptied ws

unfoldable pub feed_words : List ℕ → List Line → List ℕ
feed_words ws [] = ws
feed_words ws (x ∷ xs) = onward_words (takes x (lists_of (block ws))) (leaves x ws) (feed_words (leaves x ws) xs)

-- the desk's words behind a text
unfoldable pub text_words : List ℕ → List ℕ → List ℕ
text_words text ws = feed_words (emptied ws) (text_lines text)

-- where a reading stops, if it does: its line and its inner number
unfoldable pub stop_of : Reading → Result (Unit {0}) Stop
stop_of r = cond (eqb r.number 0) (Ok tt) (Err (record { line = r.line; inner = r.inner }))

-- the refusal's words: the line, the inner number, zeros behind them
abbrev pub REFUSAL : ℕ
REFUSAL = 2

unfoldable pub told : ℕ → ℕ → ℕ → List ℕ
told line inner n = line ∷ inner ∷ replicate (n - REFUSAL) 0

-- 1 if the desk or the refusal's buffer is below its size: everything unchanged
unfoldable pub is_lent : List ℕ → List ℕ → Bool
is_lent ws out = leb DESK (length ws) && leb REFUSAL (length out)

unfoldable pub read_number : List ℕ → List ℕ → List ℕ → ℕ
read_number text ws out = cond (is_lent ws out) (read_text text).number 1

unfoldable pub read_words : List ℕ → List ℕ → List ℕ → List ℕ
read_words text ws out = cond (is_lent ws out) (text_words text ws) ws

unfoldable pub read_refusal : List ℕ → List ℕ → List ℕ → List ℕ
read_refusal text ws out = cond (is_lent ws out) (told (read_text text).line (read_text text).inner (length out)) out
