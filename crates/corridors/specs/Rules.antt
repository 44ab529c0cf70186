-- 01, 'Corridors', as one statement about the definitions, and where the anchors lie.
use Rattle.std.specs.Prelude.{◌≡◌, List, ℕ, ◌+◌, ◌-◌, ◌<◌, ◌≤◌, length, get_or}
use Rattle.fixed.specs.Constants.{PADDING, LEAST, GREATEST}
use Rattle.axis.specs.Axis.{edges, SortedBoth}
use Rattle.corridors.specs.Grid.{Boxes, row_runs}
use Rattle.corridors.specs.Runs.{ByIndex, Maximal}
use Rattle.corridors.specs.Merge.{Anchors, turned}

-- 'padded corners give sorted distinct x and y values'; 'a padded box fills those from its least to before its greatest index'; 'maximal empty runs left to right', of each row and each column
pub record Ruled (b : Boxes) (xs ys : List ℕ) : Type 0 where
  pub xs_sorted : SortedBoth xs b.from b.to b.count
  pub ys_sorted : SortedBoth ys b.low b.high b.count
  pub by_index : (k : ℕ) → k < b.count → ByIndex b xs ys k
  pub row_maximal : (i : ℕ) → Maximal b xs (get_or ys i 0) (length xs - 1) (row_runs b xs ys i)
  pub column_maximal : (i : ℕ) → Maximal (turned b) ys (get_or xs i 0) (length ys - 1) (row_runs (turned b) ys xs i)

abbrev pub xs_of : Boxes → List ℕ
xs_of b = edges b.from b.to b.count

abbrev pub ys_of : Boxes → List ℕ
ys_of b = edges b.low b.high b.count

-- the first n lie from p to q
pub record Bounded (p q n : ℕ) (l : List ℕ) : Type 0 where
  pub least : (k : ℕ) → k < n → p ≤ get_or l k 0
  pub greatest : (k : ℕ) → k < n → get_or l k 0 ≤ q

-- all do
abbrev pub Within : ℕ → ℕ → List ℕ → Type 0
Within p q l = Bounded p q (length l) l

-- 01, 'Limits' and 'Sightline and cutoff': the edges of n boxes are fields, less or more the padding
abbrev pub Padded : ℕ → List ℕ → Type 0
Padded n l = Bounded (LEAST - PADDING) (GREATEST + PADDING) n l

-- anchors: as many x as y, the rows' a part of them, and all within the bounds of the edges
pub record Placed (p q : ℕ) (a : Anchors) : Type 0 where
  pub paired : length a.xs ≡ length a.ys
  pub level_within : a.level ≤ length a.xs
  pub xs_within : Within p q a.xs
  pub ys_within : Within p q a.ys
