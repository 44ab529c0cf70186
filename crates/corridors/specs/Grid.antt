-- 01, 'Corridors': which cells padded boxes fill, and the empty runs of a row, left to right. Along is the axis on which runs go, across the other.
use Rattle.std.specs.Prelude.{Bool, false, cond, ◌&&◌, ◌||◌, List, [], ◌∷◌, ◌++◌, ℕ, zero, suc, ◌+◌, ◌-◌, ◌*◌, ◌/◌, ◌%◌, eqb, ltb, leb, ℤ, length, get_or, set}
use Rattle.fixed.specs.declared.Axis.{Axis}
use Rattle.fixed.specs.declared.PaddedBox.{PaddedBox}
use Rattle.fixed.specs.Boxes.{min_xs, min_ys, max_xs, max_ys, across, leasts, greatests}
use Rattle.fixed.specs.Up.{ups}
use Rattle.corridors.specs.Sizes.{SPAN}

-- padded boxes: from and to along, low and high across
pub record Boxes : Type 0 where
  pub count : ℕ
  pub from : List ℕ
  pub to : List ℕ
  pub low : List ℕ
  pub high : List ℕ

abbrev pub boxes : ℕ → List ℤ → List ℤ → List ℤ → List ℤ → Boxes
boxes n a b c d = record { count = n; from = ups a; to = ups b; low = ups c; high = ups d }

-- a list of padded boxes, seen from the rows along an axis
abbrev pub seen : Axis → List PaddedBox → Boxes
seen along bs =
    record { count = length bs; from = leasts along bs; to = greatests along bs; low = leasts (across along) bs; high = greatests (across along) bs }

-- the same, from the rows along x
abbrev pub stacked : List PaddedBox → Boxes
stacked bs = record { count = length bs; from = min_xs bs; to = max_xs bs; low = min_ys bs; high = max_ys bs }

-- the box k covers the cell that begins at (x, y): it fills the cells from its least to before its greatest coordinate
unfoldable pub covers : Boxes → ℕ → ℕ → ℕ → Bool
covers b x y k = (leb (get_or b.from k 0) x && ltb x (get_or b.to k 0)) && (leb (get_or b.low k 0) y && ltb y (get_or b.high k 0))

-- one of the first m does
unfoldable pub covered : Boxes → ℕ → ℕ → ℕ → Bool
covered b x y zero = false
covered b x y (suc m) = covered b x y m || covers b x y m

unfoldable pub filled : Boxes → ℕ → ℕ → Bool
filled b x y = covered b x y b.count

-- a run of cells, from its first to before its end, is one number
abbrev pub cells : ℕ → ℕ → ℕ
cells lo hi = lo * SPAN + hi

abbrev pub start : ℕ → ℕ
start r = r / SPAN

abbrev pub end : ℕ → ℕ
end r = r % SPAN

unfoldable pub last : List ℕ → ℕ
last l = get_or l (length l - 1) 0

-- the last run ends at the cell k
unfoldable pub ends_at : List ℕ → ℕ → Bool
ends_at l k = ltb 0 (length l) && eqb (end (last l)) k

-- the empty cell k lengthens the run that ends at it, or begins one
unfoldable pub add_cell : List ℕ → ℕ → List ℕ
add_cell l k = cond (ends_at l k) (set l (length l - 1) (last l + 1)) (l ++ (cells k (k + 1) ∷ []))

-- the cell k, which begins at (x, y), after the runs l of the cells before it
unfoldable pub with_cell : Boxes → ℕ → ℕ → List ℕ → ℕ → List ℕ
with_cell b x y l k = cond (filled b x y) l (add_cell l k)

-- the empty runs of the first m cells of the row at y, left to right
unfoldable pub runs : Boxes → List ℕ → ℕ → ℕ → List ℕ
runs b xs y zero = []
runs b xs y (suc m) = with_cell b (get_or xs m 0) y (runs b xs y m) m

-- of the whole row i, and of the m rows from i
unfoldable pub row_runs : Boxes → List ℕ → List ℕ → ℕ → List ℕ
row_runs b xs ys i = runs b xs (get_or ys i 0) (length xs - 1)

unfoldable pub all_runs : Boxes → List ℕ → List ℕ → ℕ → ℕ → List (List ℕ)
all_runs b xs ys i zero = []
all_runs b xs ys i (suc m) = row_runs b xs ys i ∷ all_runs b xs ys (suc i) m
