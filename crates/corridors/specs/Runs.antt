-- 01, 'Corridors': 'a padded box fills those from its least to before its greatest index' and 'maximal empty runs left to right', as statements about `covers` and `runs`.
use Rattle.std.specs.Prelude.{◌≡◌, true, false, ◌&&◌, List, ℕ, suc, ◌<◌, ◌≤◌, ltb, leb, length, get_or}
use Rattle.axis.specs.Axis.{Has, index}
use Rattle.corridors.specs.Grid.{Boxes, covers, filled, cells, start, end}

-- on the axis lists of the boxes' edges the box k covers a cell exactly if the cell's indices lie from its least to before its greatest
pub record ByIndex (b : Boxes) (xs ys : List ℕ) (k : ℕ) : Type 0 where
  pub by_index : (i j : ℕ) → i < length xs → j < length ys → covers b (get_or xs i 0) (get_or ys j 0) k ≡ (leb (index xs (get_or b.from k 0)) i && ltb i (index xs (get_or b.to k 0))) && (leb (index ys (get_or b.low k 0)) j && ltb j (index ys (get_or b.high k 0)))

-- the cells from lo to before hi, of m, are a maximal empty run of the row at y: they are empty, and the cell before them and the cell behind them are filled or off the row
pub record MaximalRun (b : Boxes) (xs : List ℕ) (y m lo hi : ℕ) : Type 0 where
  pub some : lo < hi
  pub within : hi ≤ m
  pub empty : (k : ℕ) → lo ≤ k → k < hi → filled b (get_or xs k 0) y ≡ false
  pub left : (k : ℕ) → suc k ≡ lo → filled b (get_or xs k 0) y ≡ true
  pub right : hi < m → filled b (get_or xs hi 0) y ≡ true

-- l lists exactly the maximal empty runs, left to right
pub record Maximal (b : Boxes) (xs : List ℕ) (y m : ℕ) (l : List ℕ) : Type 0 where
  pub each : (j : ℕ) → j < length l → MaximalRun b xs y m (start (get_or l j 0)) (end (get_or l j 0))
  pub all : (lo hi : ℕ) → MaximalRun b xs y m lo hi → Has l (cells lo hi)
  pub rising : (j k : ℕ) → j < k → k < length l → end (get_or l j 0) < start (get_or l k 0)
