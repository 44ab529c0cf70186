-- Lists of padded boxes and of anchors, seen as columns.
use Rattle.std.specs.Prelude.{List, ℕ, map}
use Rattle.fixed.specs.declared.Axis.{Axis}
use Rattle.fixed.specs.declared.Axis.TheVariants.{X, Y}
use Rattle.fixed.specs.declared.PaddedBox.{PaddedBox}
use Rattle.fixed.specs.declared.Anchor.{Anchor}

abbrev pub min_xs : List PaddedBox → List ℕ
min_xs bs = map (λ (b : PaddedBox). b.min_x) bs

abbrev pub min_ys : List PaddedBox → List ℕ
min_ys bs = map (λ (b : PaddedBox). b.min_y) bs

abbrev pub max_xs : List PaddedBox → List ℕ
max_xs bs = map (λ (b : PaddedBox). b.max_x) bs

abbrev pub max_ys : List PaddedBox → List ℕ
max_ys bs = map (λ (b : PaddedBox). b.max_y) bs

-- the other axis
abbrev pub across : Axis → Axis
across X = Y
across Y = X

-- a box's edges on an axis, and those of a list of boxes
abbrev pub least : Axis → PaddedBox → ℕ
least X b = b.min_x
least Y b = b.min_y

abbrev pub greatest : Axis → PaddedBox → ℕ
greatest X b = b.max_x
greatest Y b = b.max_y

abbrev pub leasts : Axis → List PaddedBox → List ℕ
leasts X bs = min_xs bs
leasts Y bs = min_ys bs

abbrev pub greatests : Axis → List PaddedBox → List ℕ
greatests X bs = max_xs bs
greatests Y bs = max_ys bs

abbrev pub anchor_xs : List Anchor → List ℕ
anchor_xs s = map (λ (a : Anchor). a.x) s

abbrev pub anchor_ys : List Anchor → List ℕ
anchor_ys s = map (λ (a : Anchor). a.y) s

abbrev pub directions_of : List Anchor → List ℕ
directions_of s = map (λ (a : Anchor). a.directions) s

abbrev pub ignored_of : List Anchor → List ℕ
ignored_of s = map (λ (a : Anchor). a.ignored) s
