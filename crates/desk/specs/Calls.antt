-- 01, 'Desk and page text': the calls that change a desk, and the number, the book and the words of each. Lists of all calls stand in clue_desk/specs/Calls.
use Rattle.std.specs.Prelude.{List, [], ◌∷◌, cond, ℕ, get_or, ℤ, eqb}
use Rattle.fixed.specs.Up.{up}
use Rattle.rows.specs.Rows.{key}
use Rattle.book.specs.Book.{Record, Book, Seen, answer, fields_number, name_number, add_number, retire_number, spot, with_record, without_record, change, back}
use Rattle.desk.specs.Desk.{seen_of, block, with_block, out_words, back_words, entry_of, laid, latest, unlaid, sized, at0}
use Rattle.block.specs.Block.{list_of, lists_of, with_row, without_row, block_before}
use Rattle.book.specs.declared.Kind.{Kind}

-- a record is its fields; a box or net is named by its id, a port or end by its place
pub data Call : Type 0 where
  add : Kind → Record → Call
  retire : Kind → ℕ → Call
  undo : Call

-- the records of a caller's arguments
unfoldable pub box_record : ℕ → ℤ → ℤ → ℤ → ℤ → Record
box_record id x0 y0 x1 y1 = id ∷ up x0 ∷ up y0 ∷ up x1 ∷ up y1 ∷ []

unfoldable pub point_record : ℕ → ℤ → ℤ → ℕ → Record
point_record id x y last = id ∷ up x ∷ up y ∷ last ∷ []

unfoldable pub net_record : ℕ → Record
net_record id = id ∷ []

-- 'Numbers handed back', on a desk that is long enough: 7 nothing to undo
abbrev pub says : Call → Seen → ℕ
says (add k r) s = answer s.sound (fields_number k r) (add_number k s.lists (key r))
says (retire k name) s = answer s.sound (name_number k name) (retire_number k s.lists name)
says undo s = answer s.sound 0 (cond (eqb s.depth 0) 7 0)

-- the book after a call that gets 0
abbrev pub makes : Call → Book → Book
makes (add k r) b = change b (with_record k r b.lists)
makes (retire k name) b = change b (without_record k name b.lists)
makes undo b = back b b.pile

-- the words after a call that gets 0
unfoldable pub retired : Kind → ℕ → List ℕ → List ℕ
retired k i ws = with_block (without_row k i (block ws)) (laid (back_words k i (get_or (list_of k (block ws)) i [])) ws)

abbrev pub does : Call → List ℕ → List ℕ
does (add k r) ws = with_block (with_row k r (block ws)) (laid (out_words k) ws)
does (retire k name) ws = retired k (spot k (lists_of (block ws)) name) ws
does undo ws = with_block (block_before (entry_of (latest ws)) (block ws)) (unlaid ws)

-- the number handed back and the words left behind: the functions' contracts say that they are these
abbrev pub number : Call → List ℕ → ℕ
number c ws = sized ws (says c (seen_of ws))

abbrev pub words : Call → List ℕ → List ℕ
words c ws = at0 (number c ws) (does c ws) ws
