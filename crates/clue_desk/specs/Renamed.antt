-- 02, S-1: 'long ids retire and undo like short ones', of all lists of changes.
use Rattle.std.specs.Prelude.{◌≡◌, List, map, ℕ}
use Rattle.book.specs.Renamed.{Renames, renamed, renamed_book, renamed_name}
use Rattle.desk.specs.Desk.{book_of}
use Rattle.desk.specs.Calls.{Call as Edit}
use Rattle.desk.specs.Calls.Call.{add, retire, undo}
use Rattle.clue_desk.specs.Calls.{Lent, number_of, run, Empty}
use Rattle.clue_desk.specs.Calls.Call.{edit}

-- an addition, a retirement or undo, with the size of the desk's part that is lent to it
pub record Change : Type 0 where
  pub change : Edit
  pub size : ℕ

abbrev pub call : Change → Lent
call c = record { call = edit c.change; size = c.size }

unfoldable pub changed : List Change → List ℕ → List ℕ
changed cs ws = run (map call cs) ws

-- the same with other names for the ids
unfoldable pub renamed_edit : (ℕ → ℕ) → Edit → Edit
renamed_edit f (add k r) = add k (renamed f r)
renamed_edit f (retire k name) = retire k (renamed_name f k name)
renamed_edit f undo = undo

abbrev pub renamed_change : (ℕ → ℕ) → Change → Change
renamed_change f c = record { change = renamed_edit f c.change; size = c.size }

-- after any list of changes a change gets the same number whatever the ids are, and the desk holds the same records and can undo the same changes, under the other names
abbrev pub LongIds : Type 0
LongIds =
    (f : ℕ → ℕ) → Renames f → (ws new : List ℕ) → Empty ws → Empty new → (cs : List Change)
    → (book_of (changed (map (renamed_change f) cs) new) ≡ renamed_book f (book_of (changed cs ws)))
    × ((c : Change) → number_of (call (renamed_change f c)) (changed (map (renamed_change f) cs) new) ≡ number_of (call c) (changed cs ws))
