-- 01, 'Desk and page text': lists of records in words. An area is a count and then its rows, of w words each; a row's first word is its key. One width w
-- serves every kind of record, and a whole block too.
use Rattle.std.specs.Prelude.{List, [], ◌∷◌, ◌++◌, map, Bool, true, cond, ◌&&◌, Option, Some, None, ℕ, zero, suc, ◌+◌, ◌-◌, ◌*◌, length, get_or, take, drop, set, eqb, ltb}
use Rattle.std.proofs.Math.Seq.{paste}

-- ---- words
-- d with its n words from place `at` replaced by s's first n
unfoldable pub pasted : List ℕ → ℕ → List ℕ → ℕ → List ℕ
pasted d at s n = paste d at s n

-- the n words from place a, and the words with ys in their place
unfoldable pub part : ℕ → ℕ → List ℕ → List ℕ
part a n xs = take n (drop a xs)

unfoldable pub with_part : ℕ → ℕ → List ℕ → List ℕ → List ℕ
with_part a n ys xs = take a xs ++ (ys ++ drop n (drop a xs))

-- the first n rows of w words each
unfoldable pub rows : ℕ → ℕ → List ℕ → List (List ℕ)
rows w zero ws = []
rows w (suc n) ws = take w ws ∷ rows w n (drop w ws)

-- ---- areas
abbrev pub count : List ℕ → ℕ
count area = get_or area 0 0

-- the first n rows behind the count
unfoldable pub records : ℕ → ℕ → List ℕ → List (List ℕ)
records w n area = rows w n (drop 1 area)

-- a row's first word: its id, or the id of what it belongs to
unfoldable pub key : List ℕ → ℕ
key r = get_or r 0 0

abbrev pub ids : List (List ℕ) → List ℕ
ids rs = map key rs

unfoldable pub keys : ℕ → ℕ → List ℕ → List ℕ
keys w n area = ids (records w n area)

-- the area with a row put last, and with row i out: the rows behind it move down
unfoldable pub put_last : ℕ → List ℕ → List ℕ → List ℕ
put_last w row area = set (pasted area (1 + count area * w) row w) 0 (count area + 1)

unfoldable pub taken_out : ℕ → ℕ → List ℕ → List ℕ
taken_out w i area =
    set (pasted area (1 + i * w) (drop (1 + (i + 1) * w) area) ((count area - (i + 1)) * w)) 0 (count area - 1)

-- the area with a row put in at i: the rows from there on move up
unfoldable pub put_in : ℕ → ℕ → List ℕ → List ℕ → List ℕ
put_in w i row area =
    set (pasted (pasted area (1 + i * w + w) (drop (1 + i * w) area) ((count area - i) * w)) (1 + i * w) row w) 0 (count area + 1)

-- ---- lists
module _ {A : Type 0} where
  -- the list without its element at i
  unfoldable pub without : ℕ → List A → List A
  without i [] = []
  without zero (x ∷ xs) = xs
  without (suc i) (x ∷ xs) = x ∷ without i xs

  -- the list with an element put in at i
  unfoldable pub inserted : ℕ → A → List A → List A
  inserted zero x xs = x ∷ xs
  inserted (suc i) x [] = x ∷ []
  inserted (suc i) x (y ∷ ys) = y ∷ inserted i x ys

  -- each element passes a test that also sees the elements behind it
  unfoldable pub scan : (A → List A → Bool) → List A → Bool
  scan t [] = true
  scan t (x ∷ xs) = t x xs && scan t xs

-- the first place of k in a list, or the list's length
unfoldable pub place : ℕ → List ℕ → ℕ
place k [] = 0
place k (x ∷ xs) = cond (eqb x k) 0 (suc (place k xs))

unfoldable pub is_in : ℕ → List ℕ → Bool
is_in k xs = ltb (place k xs) (length xs)

-- where k is, if it is there
unfoldable pub found : ℕ → List ℕ → Option ℕ
found k xs = cond (is_in k xs) (Some (place k xs)) None
