-- Pieces and places: a place as `position` gives it, and a piece as the bytes up to its separator.
use mathlib.Core.Path.{◌≡◌, refl, sym, ap}
use mathlib.Core.List.{List, [], ◌∷◌}
use mathlib.Core.Bool.{Bool, true, false, cond}
use Prim.Native.Nat.{ℕ, suc, ◌+◌, ◌≤◌, ◌<◌}
use native.Mathlib.Numerals.{add-one, one-add}
use native.Mathlib.Omega.{arith}
use lib.ListN.{length, get_or, take, drop, length-drop}
use lib.Seq.{drop-cons}
use lib.Dec.{eqb, ltb}
use borrow.Author.Tests.{ltb-false}
use Rattle.std.specs.Prelude.{Some, None, unwrap_or, position}
use Rattle.std.specs.List.{position_or_len}
use Rattle.std.proofs.lemmas.List.Recursion.{is_position_or_len}
use Rattle.decimals.specs.Bytes.{onto, split, place}

pub drop_at : (xs : List ℕ) (i : ℕ) → i < length xs → drop i xs ≡ get_or xs i 0 ∷ drop (i + 1) xs
drop_at xs i h = rw (add-one, drop-cons xs i 0)

pub place-le : (k : ℕ) (xs : List ℕ) → place k xs ≤ length xs
unfolding place
place-le k [] = omega arith
place-le k (x ∷ xs) = go (eqb x k) (place-le k xs)
  where
    go : (b : Bool) → place k xs ≤ length xs → cond b 0 (suc (place k xs)) ≤ suc (length xs)
    go true h = omega arith
    go false h = omega arith

-- what `find` gives is no further than the end
pub find_inside : (s : List ℕ) (from e k : ℕ) → e ≡ from + place k (drop from s) → from ≤ length s → e ≤ length s
find_inside s from e k h l = omega (arith, place-le k (drop from s), length-drop from s)

-- the place of a byte as `position` gives it
pub place_is : (k : ℕ) (xs : List ℕ) → place k xs ≡ unwrap_or (position (λ x. eqb x k) xs) (length xs)
unfolding place
place_is k xs = rw (← p) (go (ltb (place k xs) (length xs)) refl)
  where
    p : place k xs ≡ position_or_len (λ x. eqb x k) xs
    p = is_position_or_len (place k) (λ x. eqb x k) refl (λ x ys. ap (cond (eqb x k) 0) (sym (one-add (place k ys)))) xs

    go : (b : Bool) → ltb (place k xs) (length xs) ≡ b → place k xs ≡ unwrap_or (cond b (Some (place k xs)) None) (length xs)
    go true e = refl
    go false e = omega (arith, ltb-false (place k xs) (length xs) e, place-le k xs)

-- a piece up to its separator, and the last piece
onto-cut : (s x : ℕ) (xs : List ℕ) (k : ℕ) → (k < length xs → split s xs ≡ take k xs ∷ split s (drop (suc k) xs))
    → suc k < suc (length xs) → onto x (split s xs) ≡ (x ∷ take k xs) ∷ split s (drop (suc k) xs)
unfolding onto
onto-cut s x xs k ih h = rw (ih (omega arith))

pub split-cut : (s : ℕ) (xs : List ℕ) → place s xs < length xs → split s xs ≡ take (place s xs) xs ∷ split s (drop (suc (place s xs)) xs)
unfolding place split
split-cut s [] h = absurd (omega arith)
split-cut s (x ∷ xs) h = go (eqb x s) (split-cut s xs) h
  where
    go : (b : Bool) → (place s xs < length xs → split s xs ≡ take (place s xs) xs ∷ split s (drop (suc (place s xs)) xs))
        → cond b 0 (suc (place s xs)) < suc (length xs)
        → cond b ([] ∷ split s xs) (onto x (split s xs))
        ≡ take (cond b 0 (suc (place s xs))) (x ∷ xs) ∷ split s (drop (suc (cond b 0 (suc (place s xs)))) (x ∷ xs))
    go true ih h = refl
    go false ih h = onto-cut s x xs (place s xs) ih h

pub split-last : (s : ℕ) (xs : List ℕ) → length xs ≤ place s xs → split s xs ≡ xs ∷ []
unfolding place split onto
split-last s [] h = refl
split-last s (x ∷ xs) h = go (eqb x s) (split-last s xs) h
  where
    go : (b : Bool) → (length xs ≤ place s xs → split s xs ≡ xs ∷ []) → suc (length xs) ≤ cond b 0 (suc (place s xs))
        → cond b ([] ∷ split s xs) (onto x (split s xs)) ≡ (x ∷ xs) ∷ []
    go true ih h = absurd (omega arith)
    go false ih h = rw (ih (omega arith))
