-- 01, 'Desk and page text': the fields of a line, plain decimals, and the words of the desk that they become.
use Rattle.std.specs.Prelude.{ℕ, ◌+◌, ◌-◌, List, [], ◌∷◌, Bool, true, cond, ◌&&◌, length, leb, ltb, Option, Some, None}
use Rattle.fixed.specs.Up.{BIAS}
use Rattle.decimals.specs.Decimal.{BASE, plain, value}
use Rattle.page_line.specs.declared.Sort.{Sort}
use Rattle.page_line.specs.declared.Sort.TheVariants.{Ident, Step, Small}

unfoldable pub all_plain : List (List ℕ) → Bool
all_plain [] = true
all_plain (f ∷ fs) = plain f && all_plain fs

unfoldable pub values : List (List ℕ) → List ℕ
values [] = []
values (f ∷ fs) = value f ∷ values fs

-- the most fields that a line is read for: no kind has more
abbrev pub MOST : ℕ
MOST = 12

-- how many fields there are, all plain and at most MOST
unfoldable pub count_of : List (List ℕ) → Option ℕ
count_of fs = cond (all_plain fs && leb (length fs) MOST) (Some (length fs)) None

-- a word that is out of range for a coordinate, directions and a mark; an id is out of range at 0
abbrev pub OUT : ℕ
OUT = 4294967295

-- a value, which is kept BASE above what the field writes, as the word of its sort; a coordinate is counted from −2^31.
-- What a word cannot hold becomes a word that is out of the field's range too.
unfoldable pub id_word : ℕ → ℕ
id_word v = cond (leb v BASE) 0 (cond (leb (BASE + BASE) v) 0 (v - BASE))

unfoldable pub step_word : ℕ → ℕ
step_word v = cond (ltb v BIAS) 0 (cond (ltb v (BASE + BIAS)) (v - BIAS) OUT)

unfoldable pub small_word : ℕ → ℕ
small_word v = cond (ltb v BASE) OUT (cond (ltb v (BASE + BASE)) (v - BASE) OUT)

unfoldable pub word : Sort → ℕ → ℕ
word Ident v = id_word v
word Step v = step_word v
word Small v = small_word v

-- values as a row of words
unfoldable pub row_of : List Sort → List ℕ → List ℕ
row_of [] vs = []
row_of (s ∷ ss) [] = []
row_of (s ∷ ss) (v ∷ vs) = word s v ∷ row_of ss vs
