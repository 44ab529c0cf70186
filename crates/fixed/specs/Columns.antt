-- A lent list that holds several columns, one behind the other: they are lists again.
use Rattle.std.specs.Prelude.{List, [], ◌∷◌, ◌++◌, ℕ, zero, suc, ◌+◌, get_or}

-- of the words w those at f 0, f 1, .., n of them
unfoldable pub pick : (ℕ → ℕ) → ℕ → List ℕ → List ℕ
pick f zero w = []
pick f (suc n) w = pick f n w ++ (get_or w (f n) 0 ∷ [])

-- where the word i of a column stands that begins at the word b of the list
unfoldable pub cell : ℕ → ℕ → ℕ
cell b i = b + i
