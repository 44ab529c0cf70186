-- 01, 'Desk and page text': a plain decimal has an optional minus, no leading zero and no −0.
-- Its value is kept as a word, BASE above it; a size of BASE or more is cut off there, where it is out of every range.
use Rattle.std.specs.Prelude.{ℕ, ◌+◌, ◌-◌, ◌*◌, min, List, [], ◌∷◌, Bool, true, false, not, cond, ◌&&◌, ◌||◌, eqb, leb, Option, Some, None}

-- 2 ^ 32
abbrev pub BASE : ℕ
BASE = 4294967296

-- the bytes of '-', '0' and '9'
abbrev pub MINUS : ℕ
MINUS = 45

abbrev pub ZERO : ℕ
ZERO = 48

abbrev pub NINE : ℕ
NINE = 57

unfoldable pub is_digit : ℕ → Bool
is_digit b = leb ZERO b && leb b NINE

unfoldable pub digits_only : List ℕ → Bool
digits_only [] = true
digits_only (b ∷ bs) = is_digit b && digits_only bs

unfoldable pub is_empty : List ℕ → Bool
is_empty [] = true
is_empty (b ∷ bs) = false

-- a digit or more, and no leading zero
unfoldable pub natural : List ℕ → Bool
natural [] = false
natural (b ∷ bs) = digits_only (b ∷ bs) && (not (eqb b ZERO) || is_empty bs)

-- the number that digits write behind the digits of v
unfoldable pub reads : ℕ → List ℕ → ℕ
reads v [] = v
reads v (b ∷ bs) = reads (v * 10 + (b - ZERO)) bs

unfoldable pub cap : ℕ → ℕ
cap v = min v BASE

unfoldable pub amount : List ℕ → ℕ
amount bs = cap (reads 0 bs)

-- a minus and a number but 0, or a number
unfoldable pub plain : List ℕ → Bool
plain [] = false
plain (b ∷ bs) = cond (eqb b MINUS) (natural bs && not (eqb (amount bs) 0)) (natural (b ∷ bs))

unfoldable pub value : List ℕ → ℕ
value [] = BASE
value (b ∷ bs) = cond (eqb b MINUS) (BASE - amount bs) (BASE + amount (b ∷ bs))

-- what the functions hand back: of digits, of a plain decimal, and of digits behind those of v
unfoldable pub amount_of : List ℕ → Option ℕ
amount_of bs = cond (natural bs) (Some (amount bs)) None

unfoldable pub number_of : List ℕ → Option ℕ
number_of bs = cond (plain bs) (Some (value bs)) None

unfoldable pub summed : ℕ → List ℕ → Option ℕ
summed v bs = cond (digits_only bs) (Some (cap (reads v bs))) None
