-- 01, 'Nets': the endpoints of a net. An end is a row of four words: its net's id, x, y and mark (crate anchors). A net's endpoints are the rows of its id,
-- in kept order, as a column of x and one of y.
use Rattle.std.specs.Prelude.{Bool, cond, List, [], ◌∷◌, ◌++◌, ℕ, zero, suc, ◌+◌, ◌*◌, eqb, get_or}

-- words of a row
abbrev pub ROW : ℕ
ROW = 4

-- whether the row k is an end of the net
unfoldable pub owns : List ℕ → ℕ → ℕ → Bool
owns E id k = eqb (get_or E (k * ROW) 0) id

-- the word w of each end of the net, among the first k rows
unfoldable pub column : ℕ → List ℕ → ℕ → ℕ → List ℕ
column w E id zero = []
column w E id (suc k) =
    let before = column w E id k in
    cond (owns E id k) (before ++ (get_or E (k * ROW + w) 0 ∷ [])) before

abbrev pub points_x : List ℕ → ℕ → ℕ → List ℕ
points_x E id k = column 1 E id k

abbrev pub points_y : List ℕ → ℕ → ℕ → List ℕ
points_y E id k = column 2 E id k
