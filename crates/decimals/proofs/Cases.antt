-- Closed cases of the definitions. Bytes: 9 tab, 10 LF, 45 minus, 48 to 57 digits.
use Prim.Native.Nat.{ℕ}
use mathlib.Core.Path.{◌≡◌, refl}
use mathlib.Core.List.{List, [], ◌∷◌}
use mathlib.Core.Bool.{Bool, true, false}
use Rattle.decimals.specs.Decimal.{is_digit, digits_only, is_empty, natural, reads, cap, amount, plain}
use Rattle.decimals.specs.Write.{digits_in, digits, signed}

plains : List (List ℕ) → List Bool
plains [] = []
plains (f ∷ fs) = plain f ∷ plains fs

-- 0, 10 and -7 are plain; an empty field, 01, -0, -, +1 and 1 with a blank are not
some-plain : plains ((48 ∷ []) ∷ (49 ∷ 48 ∷ []) ∷ (45 ∷ 55 ∷ []) ∷ []) ≡ true ∷ true ∷ true ∷ []
unfolding plains is_digit digits_only is_empty natural reads cap amount plain
some-plain = refl

none-plain :
    plains ([] ∷ (48 ∷ 49 ∷ []) ∷ (45 ∷ 48 ∷ []) ∷ (45 ∷ []) ∷ (43 ∷ 49 ∷ []) ∷ (49 ∷ 32 ∷ []) ∷ [])
    ≡ false ∷ false ∷ false ∷ false ∷ false ∷ false ∷ []
unfolding plains is_digit digits_only is_empty natural reads cap amount plain
none-plain = refl

-- 4294967295, and the coordinate of -7 steps
some-digits : digits 4294967295 ≡ 52 ∷ 50 ∷ 57 ∷ 52 ∷ 57 ∷ 54 ∷ 55 ∷ 50 ∷ 57 ∷ 53 ∷ []
unfolding digits_in digits
some-digits = refl

some-signed : signed 2147483641 ≡ 45 ∷ 55 ∷ []
unfolding digits_in digits signed
some-signed = refl
