-- 01, 'Desk and page text': `box` id, least x, least y, greatest x, greatest y; `port` box id, x, y, directions; `net` id; `end` net id, x, y, mark.
use Rattle.std.specs.Prelude.{ℕ, ◌≡◌, List, [], ◌∷◌, cond, length, eqb, Option, Some, None}
use Rattle.decimals.specs.Bytes.{TAB, split, same}
use Rattle.decimals.specs.Write.{written}
use Rattle.book.specs.declared.Kind.{Kind}
use Rattle.page_line.specs.Fields.{all_plain, values, row_of}
use Rattle.page_line.specs.declared.Sort.{Sort}
use Rattle.page_line.specs.declared.Sort.TheVariants.{Ident, Step, Small}

-- the word of each kind, as bytes
abbrev pub name : Kind → List ℕ
name Kind.Box = 98 ∷ 111 ∷ 120 ∷ []
name Kind.Port = 112 ∷ 111 ∷ 114 ∷ 116 ∷ []
name Kind.Net = 110 ∷ 101 ∷ 116 ∷ []
name Kind.End = 101 ∷ 110 ∷ 100 ∷ []

-- the fields of each kind
abbrev pub sorts : Kind → List Sort
sorts Kind.Box = Ident ∷ Step ∷ Step ∷ Step ∷ Step ∷ []
sorts Kind.Port = Ident ∷ Step ∷ Step ∷ Small ∷ []
sorts Kind.Net = Ident ∷ []
sorts Kind.End = Ident ∷ Step ∷ Step ∷ Small ∷ []

-- the most fields of a kind
abbrev pub ROW : ℕ
ROW = 5

-- the kind that a word names
unfoldable pub kind_of : List ℕ → Option Kind
kind_of w =
    cond (same w (name Kind.Box)) (Some Kind.Box)
    (cond (same w (name Kind.Port)) (Some Kind.Port)
    (cond (same w (name Kind.Net)) (Some Kind.Net)
    (cond (same w (name Kind.End)) (Some Kind.End) None)))

-- a line: a record, which is a kind and a row of words, or malformed
pub data Line : Type 0 where
  entry : Kind → List ℕ → Line
  malformed : Line

-- malformed if its word or field count is unknown or a field is no plain decimal
unfoldable pub shape : Option Kind → List ℕ → Line
shape (Some k) vs = cond (eqb (length vs) (length (sorts k))) (entry k (row_of (sorts k) vs)) malformed
shape None vs = malformed

unfoldable pub record_of : List (List ℕ) → Line
record_of [] = malformed
record_of (w ∷ fs) = cond (all_plain fs) (shape (kind_of w) (values fs)) malformed

-- a line's bytes before its LF
unfoldable pub line_of : List ℕ → Line
line_of body = record_of (split TAB body)

-- what a reader of lines says: the kind, and the row written over the buffer's first words
unfoldable pub kind_in : Line → Option Kind
kind_in (entry k r) = Some k
kind_in malformed = None

unfoldable pub row_in : Line → List ℕ
row_in (entry k r) = r
row_in malformed = []

pub record Told (l : Line) (before after : List ℕ) (r : Option Kind) : Type 0 where
  pub kind : r ≡ kind_in l
  pub row : after ≡ written before 0 (row_in l)
