-- Closed cases of the definitions: 01's sample, an empty text, a missing LF, an empty line, lines of 96 and 97 bytes, and a number past every range.
-- Bytes: 9 tab, 10 LF, 45 minus, 48 to 57 digits, 110 101 116 `net`, 101 110 100 `end`.
use mathlib.Core.Path.{◌≡◌, refl}
use mathlib.Core.List.{[], ◌∷◌, ◌++◌}
use lib.ListN.{replicate}
use Rattle.decimals.specs.Bytes.{LF, TAB, onto, split, same}
use Rattle.decimals.specs.Decimal.{is_digit, digits_only, is_empty, natural, reads, cap, amount, plain, value}
use Rattle.book.specs.declared.Kind.{Kind}
use Rattle.page_line.specs.Fields.{all_plain, values, id_word, step_word, small_word, word, row_of}
use Rattle.page_line.specs.Records.{entry, malformed, kind_of, shape, record_of, line_of}
use Rattle.page_line.specs.Lines.{ended_in, lines_in, text_lines_in, text_lines}

-- net 1, end 1 0 0 0
two-lines :
    text_lines (110 ∷ 101 ∷ 116 ∷ TAB ∷ 49 ∷ LF ∷ 101 ∷ 110 ∷ 100 ∷ TAB ∷ 49 ∷ TAB ∷ 48 ∷ TAB ∷ 48 ∷ TAB ∷ 48 ∷ LF ∷ [])
    ≡ entry Kind.Net (1 ∷ []) ∷ entry Kind.End (1 ∷ 2147483648 ∷ 2147483648 ∷ 0 ∷ []) ∷ []
unfolding onto split same is_digit digits_only is_empty natural reads cap amount plain value
    all_plain values id_word step_word small_word word row_of kind_of shape record_of line_of ended_in lines_in text_lines_in
two-lines = refl

no_line : text_lines [] ≡ []
unfolding split lines_in is_empty text_lines_in
no_line = refl

lacks : text_lines (110 ∷ 101 ∷ 116 ∷ TAB ∷ 49 ∷ []) ≡ malformed ∷ []
unfolding onto split lines_in is_empty text_lines_in
lacks = refl

bare : text_lines (LF ∷ []) ≡ malformed ∷ []
unfolding split onto lines_in is_empty ended_in line_of record_of all_plain kind_of shape values same text_lines_in
bare = refl

-- 91 digits, which are no id, and 92
longest : text_lines ((110 ∷ 101 ∷ 116 ∷ TAB ∷ []) ++ (replicate 91 49 ++ (LF ∷ []))) ≡ entry Kind.Net (0 ∷ []) ∷ []
unfolding onto split same is_digit digits_only is_empty natural reads cap amount plain value
    all_plain values id_word step_word small_word word row_of kind_of shape record_of line_of ended_in lines_in text_lines_in
longest = refl

long : text_lines ((110 ∷ 101 ∷ 116 ∷ TAB ∷ []) ++ (replicate 92 49 ++ (LF ∷ []))) ≡ malformed ∷ []
unfolding split onto lines_in is_empty ended_in text_lines_in
long = refl

-- a coordinate of 40 nines
nines : step_word (value (replicate 40 57)) ≡ 4294967295
unfolding step_word value amount reads cap
nines = refl
