-- 01, 'Desk and page text', and 02, S-1: a text as lines ended by LF, at most 96 bytes with it.
use Rattle.std.specs.Prelude.{ℕ, ◌-◌, List, [], ◌∷◌, cond, length, take, drop, eqb, ltb}
use Rattle.decimals.specs.Bytes.{LF, split}
use Rattle.decimals.specs.Decimal.{is_empty}
use Rattle.page_line.specs.Records.{Line, malformed, line_of}

-- the longest line, its LF included
abbrev pub LINE : ℕ
LINE = 96

-- a piece that an LF ends, where a line has at most `line` bytes with it: malformed if it is too long. What is named with `In` is said of every
-- `line`, and the same name without it of LINE
unfoldable pub ended_in : ℕ → List ℕ → Line
ended_in line p = cond (ltb (length p) line) (line_of p) malformed

abbrev pub ended : List ℕ → Line
ended = ended_in LINE

-- the lines of a text, from its pieces between LFs: what stands behind the last LF is none, or a line whose LF is missing
unfoldable pub lines_in : ℕ → List (List ℕ) → List Line
lines_in line [] = []
lines_in line (p ∷ []) = cond (is_empty p) [] (malformed ∷ [])
lines_in line (p ∷ q ∷ ps) = ended_in line p ∷ lines_in line (q ∷ ps)

abbrev pub lines_of : List (List ℕ) → List Line
lines_of = lines_in LINE

unfoldable pub text_lines_in : ℕ → List ℕ → List Line
text_lines_in line text = lines_in line (split LF text)

abbrev pub text_lines : List ℕ → List Line
text_lines = text_lines_in LINE

-- the line from `at` to the LF at e, or to the end of the text
unfoldable pub line_at : List ℕ → ℕ → ℕ → Line
line_at text at e = cond (eqb e (length text)) malformed (ended (take (e - at) (drop at text)))
