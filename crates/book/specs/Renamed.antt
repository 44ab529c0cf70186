-- 02, S-1: 'long ids retire and undo like short ones'. Other names for the ids, in records, lists and the book: nothing but which ids are equal counts.
use Rattle.std.specs.Prelude.{◌≡◌, [], ◌∷◌, map, true, cond, ℕ, eqb}
use Rattle.book.specs.Book.{Record, Lists, Book, ok_id}
use Rattle.book.specs.declared.Kind.{Kind}

-- no two ids get one name, an id gets an id, and 0, which is none, stays
pub record Renames (f : ℕ → ℕ) : Type 0 where
  pub apart : (a b : ℕ) → f a ≡ f b → a ≡ b
  pub ok : (a : ℕ) → ok_id (f a) ≡ ok_id a
  pub none : f 0 ≡ 0

-- one id for another, say a long one for a short one
unfoldable pub swapped : ℕ → ℕ → ℕ → ℕ
swapped a b id = cond (eqb id a) b (cond (eqb id b) a id)

abbrev pub Swaps : Type 0
Swaps = (a b : ℕ) → ok_id a ≡ true → ok_id b ≡ true → Renames (swapped a b)

-- a record's first field is its id, or that of its box or net
unfoldable pub renamed : (ℕ → ℕ) → Record → Record
renamed f [] = []
renamed f (id ∷ fields) = f id ∷ fields

unfoldable pub renamed_lists : (ℕ → ℕ) → Lists → Lists
renamed_lists f l =
    record { boxes = map (renamed f) l.boxes; ports = map (renamed f) l.ports; nets = map (renamed f) l.nets; ends = map (renamed f) l.ends }

unfoldable pub renamed_book : (ℕ → ℕ) → Book → Book
renamed_book f b = record { lists = renamed_lists f b.lists; pile = map (renamed_lists f) b.pile }

-- what a retirement names: a box or net by its id, a port or end by its place
abbrev pub renamed_name : (ℕ → ℕ) → Kind → ℕ → ℕ
renamed_name f Kind.Box id = f id
renamed_name f Kind.Port at = at
renamed_name f Kind.Net id = f id
renamed_name f Kind.End at = at
