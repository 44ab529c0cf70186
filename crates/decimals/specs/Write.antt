-- 01, 'Desk and page text' and 'Cases at the edges': numbers as bytes, and bytes written into a buffer.
use Rattle.std.specs.Prelude.{ℕ, zero, suc, ◌+◌, ◌-◌, ◌/◌, ◌%◌, List, [], ◌∷◌, ◌++◌, cond, ◌≡◌, length, take, drop, ltb}
use Rattle.fixed.specs.Up.{BIAS}
use Rattle.decimals.specs.Bytes.{TAB}
use Rattle.decimals.specs.Decimal.{MINUS, ZERO}

-- at most k digits of v
unfoldable pub digits_in : ℕ → ℕ → List ℕ
digits_in zero v = []
digits_in (suc k) v = let more : List ℕ = digits_in k (v / 10) ++ ((ZERO + v % 10) ∷ []) in cond (ltb v 10) ((ZERO + v) ∷ []) more

-- the digits of v: fewer than v + 1 are enough
unfoldable pub digits : ℕ → List ℕ
digits v = digits_in (v + 1) v

-- the coordinate that lies u steps above −2^31
unfoldable pub signed : ℕ → List ℕ
signed u = cond (ltb u BIAS) (MINUS ∷ digits (BIAS - u)) (digits (u - BIAS))

-- a field behind a tab, and several
abbrev pub field : List ℕ → List ℕ
field f = TAB ∷ f

unfoldable pub tabbed : List (List ℕ) → List ℕ
tabbed [] = []
tabbed (f ∷ fs) = field f ++ tabbed fs

-- a buffer with bytes written over it at a place
unfoldable pub written : List ℕ → ℕ → List ℕ → List ℕ
written buf at ds = take at buf ++ (ds ++ drop (at + length ds) buf)

-- what a writer says: the bytes, and the place behind them
pub record Put (buf : List ℕ) (at : ℕ) (ds w : List ℕ) (e : ℕ) : Type 0 where
  pub bytes : w ≡ written buf at ds
  pub next : e ≡ at + length ds
