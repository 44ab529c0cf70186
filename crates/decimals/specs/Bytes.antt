-- 01, 'Desk and page text': lines ended by LF, fields parted by tabs. Both are bytes parted by a separator.
use Rattle.std.specs.Prelude.{ℕ, suc, List, [], ◌∷◌, Bool, cond, eqb}
use Rattle.std.specs.Str.{bytes_eq}

abbrev pub TAB : ℕ
TAB = 9

abbrev pub LF : ℕ
LF = 10

-- a byte put before the first piece
unfoldable pub onto : ℕ → List (List ℕ) → List (List ℕ)
onto b [] = (b ∷ []) ∷ []
onto b (p ∷ ps) = (b ∷ p) ∷ ps

-- the pieces between the separators s: one more than there are separators
unfoldable pub split : ℕ → List ℕ → List (List ℕ)
split s [] = [] ∷ []
split s (b ∷ bs) = cond (eqb b s) ([] ∷ split s bs) (onto b (split s bs))

-- the first place of k, or the length
unfoldable pub place : ℕ → List ℕ → ℕ
place k [] = 0
place k (x ∷ xs) = cond (eqb x k) 0 (suc (place k xs))

-- the same bytes
unfoldable pub same : List ℕ → List ℕ → Bool
same = bytes_eq
