-- 01, 'Desk and page text': the book. A list for each kind of record, a pile of copies of the lists, and the number that each call gets.
-- A record is the list of its fields, in 01's order; a coordinate is counted in steps from −2^31.
use Rattle.std.specs.Prelude.{List, [], ◌∷◌, ◌++◌, map, Bool, true, not, cond, ◌&&◌, ℕ, length, get_or, take, eqb, ltb, leb}
use Rattle.fixed.specs.Constants.{LEAST, GREATEST}
use Rattle.rows.specs.Rows.{key, ids, scan, place, is_in, without}
use Rattle.book.specs.Sizes.{IDS, COPIES, BOX, PORT, NET, END, BOXES, PORTS, NETS, ENDS}
use Rattle.book.specs.declared.Kind.{Kind}

abbrev pub Record : Type 0
Record = List ℕ

pub record Lists : Type 0 where
  pub boxes : List Record
  pub ports : List Record
  pub nets : List Record
  pub ends : List Record

pub record Book : Type 0 where
  pub lists : Lists
  pub pile : List Lists

-- the list of a kind, and the lists with another one of that kind
abbrev pub list : Kind → Lists → List Record
list Kind.Box l = l.boxes
list Kind.Port l = l.ports
list Kind.Net l = l.nets
list Kind.End l = l.ends

abbrev pub with_list : Kind → List Record → Lists → Lists
with_list Kind.Box rs l = record { boxes = rs; ports = l.ports; nets = l.nets; ends = l.ends }
with_list Kind.Port rs l = record { boxes = l.boxes; ports = rs; nets = l.nets; ends = l.ends }
with_list Kind.Net rs l = record { boxes = l.boxes; ports = l.ports; nets = rs; ends = l.ends }
with_list Kind.End rs l = record { boxes = l.boxes; ports = l.ports; nets = l.nets; ends = rs }

-- ---- limits
-- a kind's number of fields, and the most records of it
abbrev pub width : Kind → ℕ
width Kind.Box = BOX
width Kind.Port = PORT
width Kind.Net = NET
width Kind.End = END

abbrev pub most : Kind → ℕ
most Kind.Box = BOXES
most Kind.Port = PORTS
most Kind.Net = NETS
most Kind.End = ENDS

-- ids go from 1 to `top`. What is named with `In` is said of every `top`, and the same name without it of IDS
unfoldable pub ok_id_in : ℕ → ℕ → Bool
ok_id_in top id = leb 1 id && leb id top

abbrev pub ok_id : ℕ → Bool
ok_id = ok_id_in IDS

unfoldable pub ok_place : ℕ → ℕ → Bool
ok_place x y = (leb LEAST x && leb x GREATEST) && (leb LEAST y && leb y GREATEST)

abbrev pub field : ℕ → Record → ℕ
field i r = get_or r i 0

-- box: id, least x, least y, greatest x, greatest y. port: box id, x, y, directions. net: id. end: net id, x, y, mark
abbrev pub ok_fields_in : ℕ → Kind → Record → Bool
ok_fields_in top Kind.Box r =
    (ok_id_in top (field 0 r) && (ok_place (field 1 r) (field 2 r) && ok_place (field 3 r) (field 4 r)))
    && (leb (field 1 r) (field 3 r) && leb (field 2 r) (field 4 r))
ok_fields_in top Kind.Port r = (ok_id_in top (field 0 r) && ok_place (field 1 r) (field 2 r)) && leb (field 3 r) 15
ok_fields_in top Kind.Net r = ok_id_in top (field 0 r)
ok_fields_in top Kind.End r = (ok_id_in top (field 0 r) && ok_place (field 1 r) (field 2 r)) && leb (field 3 r) 1

abbrev pub ok_fields : Kind → Record → Bool
ok_fields = ok_fields_in IDS

-- 'Numbers handed back' 2: a field out of range
unfoldable pub ranged : Bool → ℕ
ranged ok = cond ok 0 2

-- the number of a record's fields, and a record that a desk may hold
unfoldable pub fields_number_in : ℕ → Kind → Record → ℕ
fields_number_in top k r = ranged (eqb (length r) (width k) && ok_fields_in top k r)

abbrev pub fields_number : Kind → Record → ℕ
fields_number = fields_number_in IDS

unfoldable pub ok_record : Kind → Record → Bool
ok_record k r = eqb (fields_number k r) 0

-- a record among those behind it: ids are distinct; a record of a box or net, whose records are os: it is there
unfoldable pub own : Kind → Record → List Record → Bool
own k r rs = ok_record k r && not (is_in (key r) (ids rs))

unfoldable pub belongs : Kind → List Record → Record → List Record → Bool
belongs k os r rs = ok_record k r && is_in (key r) (ids os)

unfoldable pub ok_owners : Kind → List Record → Bool
ok_owners k rs = leb (length rs) (most k) && scan (own k) rs

unfoldable pub ok_members : Kind → List Record → List Record → Bool
ok_members k os rs = leb (length rs) (most k) && scan (belongs k os) rs

-- 'its counts and fields keep the limits, ids are distinct, every port's box and every end's net is there'
unfoldable pub ok_lists : Lists → Bool
ok_lists l =
    (ok_owners Kind.Box l.boxes && ok_owners Kind.Net l.nets)
    && (ok_members Kind.Port l.boxes l.ports && ok_members Kind.End l.nets l.ends)

unfoldable pub ok_copy : Lists → List Lists → Bool
ok_copy l ls = ok_lists l

-- 'and each undo entry, taken in turn, applies and leaves such a desk'
unfoldable pub valid : Book → Bool
valid b = leb (length b.pile) COPIES && scan ok_copy (b.lists ∷ b.pile)

-- what a call sees of a desk: whether it is sound, its lists, and how many changes can be undone
pub record Seen : Type 0 where
  pub sound : Bool
  pub lists : Lists
  pub depth : ℕ

abbrev pub seen : Book → Seen
seen b = record { sound = valid b; lists = b.lists; depth = length b.pile }

-- ---- 'Numbers handed back', on the lists alone: 3 id live already; 4 box, net or place unknown; 5 box has ports, or net has ends; 6 that list is full
unfoldable pub room_number : Kind → List Record → ℕ
room_number k rs = cond (ltb (length rs) (most k)) 0 6

unfoldable pub new_number : Kind → List Record → ℕ → ℕ
new_number k rs id = cond (is_in id (ids rs)) 3 (room_number k rs)

unfoldable pub known_number : Kind → List Record → List Record → ℕ → ℕ
known_number k os rs id = cond (is_in id (ids os)) (room_number k rs) 4

-- an addition, of a record of that kind with that first field
abbrev pub add_number : Kind → Lists → ℕ → ℕ
add_number Kind.Box l id = new_number Kind.Box l.boxes id
add_number Kind.Port l id = known_number Kind.Port l.boxes l.ports id
add_number Kind.Net l id = new_number Kind.Net l.nets id
add_number Kind.End l id = known_number Kind.End l.nets l.ends id

unfoldable pub id_number : List Record → List Record → ℕ → ℕ
id_number os rs id = cond (is_in id (ids os)) (cond (is_in id (ids rs)) 5 0) 4

unfoldable pub place_number : List Record → ℕ → ℕ
place_number rs at = cond (ltb at (length rs)) 0 4

-- a retirement: 'boxes and nets retire by id, ports and ends by their 0-based place'
abbrev pub retire_number : Kind → Lists → ℕ → ℕ
retire_number Kind.Box l id = id_number l.boxes l.ports id
retire_number Kind.Port l at = place_number l.ports at
retire_number Kind.Net l id = id_number l.nets l.ends id
retire_number Kind.End l at = place_number l.ends at

-- an id is a field, a place is none
abbrev pub name_number : Kind → ℕ → ℕ
name_number Kind.Box id = ranged (ok_id id)
name_number Kind.Port at = 0
name_number Kind.Net id = ranged (ok_id id)
name_number Kind.End at = 0

-- the place of the record that is named so
abbrev pub spot : Kind → Lists → ℕ → ℕ
spot Kind.Box l id = place id (ids l.boxes)
spot Kind.Port l at = at
spot Kind.Net l id = place id (ids l.nets)
spot Kind.End l at = at

-- 2: the desk is not sound; else the fields' number; else n
unfoldable pub answer : Bool → ℕ → ℕ → ℕ
answer sound fields n = cond sound (cond (eqb fields 0) n fields) 2

-- the numbers of an addition and of a retirement on a sound desk; a reading adds its records so
unfoldable pub take_number_in : ℕ → Kind → Record → Lists → ℕ
take_number_in top k r l = answer true (fields_number_in top k r) (add_number k l (key r))

abbrev pub take_number : Kind → Record → Lists → ℕ
take_number = take_number_in IDS

unfoldable pub leave_number : Kind → ℕ → Lists → ℕ
leave_number k name l = answer true (name_number k name) (retire_number k l name)

-- ---- changes
-- 'an addition puts its record last and a retirement takes its record out'
unfoldable pub with_record : Kind → Record → Lists → Lists
with_record k r l = with_list k (list k l ++ (r ∷ [])) l

unfoldable pub without_record : Kind → ℕ → Lists → Lists
without_record k name l = with_list k (without (spot k l name) (list k l)) l

-- 'each after laying a copy on the pile; a 33rd copy drops the oldest'
unfoldable pub change : Book → Lists → Book
change b l = record { lists = l; pile = take COPIES (b.lists ∷ b.pile) }

-- 'undo puts the top copy back and takes it off'
unfoldable pub back : Book → List Lists → Book
back b [] = b
back b (l ∷ ls) = record { lists = l; pile = ls }

abbrev pub no_lists : Lists
no_lists = record { boxes = []; ports = []; nets = []; ends = [] }

-- the book of lists without a copy; 'empty at first'
abbrev pub book_with : Lists → Book
book_with l = record { lists = l; pile = [] }

abbrev pub no_book : Book
no_book = book_with no_lists

-- 'the surviving records are the lists in kept order: boxes, ports, nets, ends'
pub record Item : Type 0 where
  pub kind : Kind
  pub row : Record

unfoldable pub items : Kind → List Record → List Item
items k rs = map (λ r. record { kind = k; row = r }) rs

unfoldable pub in_order : Lists → List Item
in_order l = items Kind.Box l.boxes ++ (items Kind.Port l.ports ++ (items Kind.Net l.nets ++ items Kind.End l.ends))
