-- 01, 'Corridors': a run takes the equal run out of each following row until a row lacks it, the last run of that row filling the hole, and yields two anchors.
use Rattle.std.specs.Prelude.{Bool, cond, List, [], ◌∷◌, ◌++◌, ℕ, zero, suc, ◌+◌, ◌-◌, ltb, length, get_or, take, set}
use Rattle.fixed.specs.Steps.{middle}
use Rattle.axis.specs.Axis.{index, edges}
use Rattle.corridors.specs.Sizes.{X, Y}
use Rattle.corridors.specs.Grid.{Boxes, start, end, all_runs}

abbrev pub Table : Type 0
Table = List (List ℕ)

unfoldable pub has : List ℕ → ℕ → Bool
has l v = ltb (index l v) (length l)

-- without v, whose place the last one takes (`swap_remove`)
unfoldable pub swap_remove : List ℕ → ℕ → List ℕ
swap_remove l v = take (length l - 1) (set l (index l v) (get_or l (length l - 1) 0))

-- the first row that lacks the run, and what the rows are then
pub record Taken : Type 0 where
  pub next : ℕ
  pub rows : Table

-- v taken out of each of the m rows from k on, until one lacks it
unfoldable pub take_out : ℕ → ℕ → ℕ → Table → Taken
take_out v k zero t = record { next = k; rows = t }
take_out v k (suc m) t = cond (has (get_or t k []) v) (take_out v (k + 1) m (set t k (swap_remove (get_or t k []) v))) (record { next = k; rows = t })

-- the rows, and the anchors so far: their coordinates along the runs and across
pub record Plan : Type 0 where
  pub rows : Table
  pub along : List ℕ
  pub across : List ℕ

-- the two anchors of the run v of the rows from i to before `next`: 1 step inside its ends, at the half sum of the rows' outer edges
unfoldable pub yield : List ℕ → List ℕ → ℕ → ℕ → Taken → Plan → Plan
yield xs ys i v t p =
    record { rows = t.rows; along = p.along ++ ((get_or xs (start v) 0 + 1) ∷ (get_or xs (end v) 0 - 1) ∷ []); across = p.across ++ (middle (get_or ys i 0) (get_or ys t.next 0) ∷ middle (get_or ys i 0) (get_or ys t.next 0) ∷ []) }

-- the run j of the row i, of n rows
unfoldable pub corridor : List ℕ → List ℕ → ℕ → ℕ → ℕ → Plan → Plan
corridor xs ys n i j p =
    yield xs ys i (get_or (get_or p.rows i []) j 0) (take_out (get_or (get_or p.rows i []) j 0) (i + 1) (n - (i + 1)) p.rows) p

-- f k, f (k + 1), .., m turns
unfoldable pub fold : (ℕ → Plan → Plan) → ℕ → ℕ → Plan → Plan
fold f k zero p = p
fold f k (suc m) p = fold f (k + 1) m (f k p)

-- each run of the row i
unfoldable pub row_corridors : List ℕ → List ℕ → ℕ → ℕ → Plan → Plan
row_corridors xs ys n i p = fold (corridor xs ys n i) 0 (length (get_or p.rows i [])) p

-- the anchors of the rows between the coordinates ys, ascending, after those that are there
unfoldable pub corridors : Boxes → List ℕ → List ℕ → List ℕ → List ℕ → Plan
corridors b xs ys along across =
    fold (row_corridors xs ys (length ys - 1)) 0 (length ys - 1) (record { rows = all_runs b xs ys 0 (length ys - 1); along = along; across = across })

-- implicit anchors: the first `level` with X directions, the others with Y
pub record Anchors : Type 0 where
  pub level : ℕ
  pub xs : List ℕ
  pub ys : List ℕ

-- the columns' anchors after those of the rows: the axes exchanged
unfoldable pub crossed : Boxes → List ℕ → List ℕ → Plan → Anchors
crossed b xs ys p =
    record { level = length p.along; xs = (corridors b ys xs p.across p.along).across; ys = (corridors b ys xs p.across p.along).along }

-- b: the boxes by rows, v: by columns
unfoldable pub implicit : Boxes → Boxes → List ℕ → List ℕ → Anchors
implicit b v xs ys = crossed v xs ys (corridors b xs ys [] [])

-- the boxes with the axes exchanged
abbrev pub turned : Boxes → Boxes
turned b = record { count = b.count; from = b.low; to = b.high; low = b.from; high = b.to }

-- the implicit anchors between padded boxes, on the sorted distinct coordinates of their corners
abbrev pub anchors : Boxes → Anchors
anchors b = implicit b (turned b) (edges b.from b.to b.count) (edges b.low b.high b.count)

-- the directions of the first k anchors
unfoldable pub directions : ℕ → ℕ → List ℕ
directions level zero = []
directions level (suc k) = directions level k ++ (cond (ltb k level) X Y ∷ [])
