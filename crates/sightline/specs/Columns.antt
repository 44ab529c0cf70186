-- Padded boxes as columns, seen from a line among them.
use Rattle.std.specs.Prelude.{◌≡◌, List, ℕ, ◌<◌, Option, Some, None, length, take}
use Rattle.fixed.specs.Constants.{BOXES}
use Rattle.fixed.specs.declared.Axis.{Axis}
use Rattle.fixed.specs.declared.Axis.TheVariants.{X, Y}
use Rattle.fixed.specs.declared.PaddedBox.{PaddedBox}
use Rattle.fixed.specs.Boxes.{across, min_xs, min_ys, max_xs, max_ys}
use Rattle.sightline.specs.Sight.{Line}
use Rattle.sightline.specs.declared.Columns.{Columns}

-- the edges of the boxes on an axis
abbrev pub leasts_in : Axis → Columns → List ℕ
leasts_in X c = take c.count c.min_x
leasts_in Y c = take c.count c.min_y

abbrev pub greatests_in : Axis → Columns → List ℕ
greatests_in X c = take c.count c.max_x
greatests_in Y c = take c.count c.max_y

-- the line at c along an axis, as Lent has it
abbrev pub line_in : Columns → Axis → ℕ → ℕ → Line
line_in s along c ignore =
    record { low = leasts_in (across along) s; high = greatests_in (across along) s; from = leasts_in along s; to = greatests_in along s; count = s.count; at = c; ignore = ignore }

-- the columns of some boxes
pub record Columned (boxes : List PaddedBox) (s : Columns) : Type 0 where
  pub min_x : take s.count s.min_x ≡ min_xs boxes
  pub min_y : take s.count s.min_y ≡ min_ys boxes
  pub max_x : take s.count s.max_x ≡ max_xs boxes
  pub max_y : take s.count s.max_y ≡ max_ys boxes
  pub count : s.count ≡ length boxes

-- none if there are more than BOXES boxes
abbrev pub Held : List PaddedBox → Option Columns → Type 0
Held boxes None = BOXES < length boxes
Held boxes (Some s) = Columned boxes s
