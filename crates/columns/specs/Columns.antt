-- Columns of n words each in one lent list, one behind the other. A column is a list as the definitions have them.
use Rattle.std.specs.Prelude.{ℕ, ◌*◌, ◌≡◌, List, length}
use Rattle.fixed.specs.Columns.{pick, cell}

-- the w-th column of n words
unfoldable pub column : ℕ → ℕ → List ℕ → List ℕ
column w n l = pick (cell (w * n)) n l

-- from a to b at most the w-th column changed
pub record Only (n w : ℕ) (a b : List ℕ) : Type 0 where
  pub others : (k : ℕ) → (k ≡ w → ⊥) → column k n b ≡ column k n a
  pub long : length b ≡ length a
