-- 01, 'Desk and page text': undo entries. Each tells how the lists were before a change; taken in turn, they stand for the book's pile of copies.
use Rattle.std.specs.Prelude.{List, [], ◌∷◌, Bool, false, cond, ℕ, ◌-◌, length, get_or, ltb, leb}
use Rattle.rows.specs.Rows.{key, ids, is_in, without, inserted}
use Rattle.book.specs.Book.{Record, Lists, list, with_list}
use Rattle.book.specs.declared.Kind.{Kind}

-- an addition is undone by taking the last record of its kind out, a retirement by putting the record in again at its place; or a word that is no entry
pub data Entry : Type 0 where
  out : Kind → Entry
  back : Kind → ℕ → Record → Entry
  none : Entry

unfoldable pub applies : Entry → Lists → Bool
applies (out k) l = ltb 0 (length (list k l))
applies (back k i r) l = leb i (length (list k l))
applies none l = false

unfoldable pub restored : Entry → Lists → Lists
restored (out k) l = with_list k (without (length (list k l) - 1) (list k l)) l
restored (back k i r) l = with_list k (inserted i r (list k l)) l
restored none l = l

-- lists that no desk has: a box without fields
abbrev pub no_desk : Lists
no_desk = record { boxes = [] ∷ []; ports = []; nets = []; ends = [] }

-- the lists before the change: 'each undo entry, taken in turn, applies', else they are no desk's
unfoldable pub before : Entry → Lists → Lists
before e l = cond (applies e l) (restored e l) no_desk

-- the copies that entries stand for, the latest first
unfoldable pub copies : List Entry → Lists → List Lists
copies [] l = []
copies (e ∷ es) l = before e l ∷ copies es (before e l)

-- whether a record belongs to the one at place i: a port to the box, an end to the net
abbrev pub is_held : Kind → Lists → ℕ → Bool
is_held Kind.Box l i = is_in (key (get_or l.boxes i [])) (ids l.ports)
is_held Kind.Port l i = false
is_held Kind.Net l i = is_in (key (get_or l.nets i [])) (ids l.ends)
is_held Kind.End l i = false
