-- Closed cases of reading, in one table: the empty text; 01's sample; the nets 1, 65,537 and 4,294,967,295; and lines refused as malformed (-0), out of range (an id
-- of 4,294,967,296), live already (a second net 1, at line 2) and unknown (an end of no net). Bytes: 9 tab, 10 LF, 45 minus, 48 to 57 digits, letters.
use Prim.Native.Nat.{ℕ}
use mathlib.Core.Path.{◌≡◌, refl}
use mathlib.Core.List.{List, [], ◌∷◌, ◌++◌}
use Rattle.decimals.specs.Bytes.{onto, split, same}
use Rattle.decimals.specs.Decimal.{is_digit, digits_only, is_empty, natural, reads, cap, amount, plain, value}
use Rattle.rows.specs.Rows.{key, is_in, place}
use Rattle.book.specs.Book.{Lists, no_lists, ok_id_in, ok_place, ok_record, fields_number_in, ranged, answer, take_number_in, new_number, known_number, room_number, with_record}
use Rattle.page_line.specs.Fields.{all_plain, values, id_word, step_word, small_word, word, row_of}
use Rattle.page_line.specs.Records.{kind_of, shape, record_of, line_of}
use Rattle.page_line.specs.Lines.{ended_in, lines_in, text_lines_in}
use Rattle.page_text.specs.Reading.{Reading, accepted, refused, step_of, takes_in, adds, onward, feed_in, read_in, read_text}

readings : List (List ℕ) → List Reading
readings [] = []
readings (t ∷ ts) = read_text t ∷ readings ts

net-1 : List ℕ
net-1 = 110 ∷ 101 ∷ 116 ∷ 9 ∷ 49 ∷ 10 ∷ []

net-65537 : List ℕ
net-65537 = 110 ∷ 101 ∷ 116 ∷ 9 ∷ 54 ∷ 53 ∷ 53 ∷ 51 ∷ 55 ∷ 10 ∷ []

net-4294967295 : List ℕ
net-4294967295 = 110 ∷ 101 ∷ 116 ∷ 9 ∷ 52 ∷ 50 ∷ 57 ∷ 52 ∷ 57 ∷ 54 ∷ 55 ∷ 50 ∷ 57 ∷ 53 ∷ 10 ∷ []

end-1 : List ℕ
end-1 = 101 ∷ 110 ∷ 100 ∷ 9 ∷ 49 ∷ 9 ∷ 48 ∷ 9 ∷ 48 ∷ 9 ∷ 48 ∷ 10 ∷ []

end-2 : List ℕ
end-2 = 101 ∷ 110 ∷ 100 ∷ 9 ∷ 49 ∷ 9 ∷ 50 ∷ 53 ∷ 54 ∷ 48 ∷ 9 ∷ 53 ∷ 49 ∷ 50 ∷ 48 ∷ 9 ∷ 48 ∷ 10 ∷ []

sample : Lists
sample =
    record {
      boxes = [];
      ports = [];
      nets = (1 ∷ []) ∷ [];
      ends = (1 ∷ 2147483648 ∷ 2147483648 ∷ 0 ∷ []) ∷ (1 ∷ 2147486208 ∷ 2147488768 ∷ 0 ∷ []) ∷ [];
    }

three-nets : Lists
three-nets = record { boxes = []; ports = []; nets = (1 ∷ []) ∷ (65537 ∷ []) ∷ (4294967295 ∷ []) ∷ []; ends = [] }

cases :
    readings (
    []
    ∷ (net-1 ++ (end-1 ++ end-2))
    ∷ (net-1 ++ (net-65537 ++ net-4294967295))
    ∷ (110 ∷ 101 ∷ 116 ∷ 9 ∷ 45 ∷ 48 ∷ 10 ∷ [])
    ∷ (110 ∷ 101 ∷ 116 ∷ 9 ∷ 52 ∷ 50 ∷ 57 ∷ 52 ∷ 57 ∷ 54 ∷ 55 ∷ 50 ∷ 57 ∷ 54 ∷ 10 ∷ [])
    ∷ (net-1 ++ net-1)
    ∷ end-1
    ∷ []
    )
    ≡ accepted no_lists ∷ accepted sample ∷ accepted three-nets ∷ refused 1 0 ∷ refused 1 2 ∷ refused 2 3 ∷ refused 1 4 ∷ []
unfolding readings net-1 net-65537 net-4294967295 end-1 end-2 sample three-nets onto split same is_digit digits_only is_empty natural reads cap amount plain value key is_in place
    ok_id_in ok_place ok_record fields_number_in ranged answer take_number_in new_number known_number room_number with_record all_plain values id_word step_word small_word word row_of
    kind_of shape record_of line_of ended_in lines_in text_lines_in step_of takes_in adds onward feed_in read_in
cases = refl
