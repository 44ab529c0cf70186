-- Columns of boxes.
--     column-more     a column when one box more is stored
--     columned-line   a line among the columns is the line among the boxes
use mathlib.Core.Path.{◌≡◌}
use mathlib.Core.List.{List, map}
use Prim.Native.Nat.{ℕ, ◌+◌, ◌<◌}
use lib.ListN.{length, get_or, set, take}
use Rattle.std.proofs.lemmas.List.{take_more_set, map_more}
use Rattle.fixed.specs.declared.Axis.{Axis}
use Rattle.fixed.specs.declared.Axis.TheVariants.{X, Y}
use Rattle.fixed.specs.declared.PaddedBox.{PaddedBox}
use Rattle.sightline.specs.Lent.{line}
use Rattle.sightline.specs.Columns.{line_in, Columned}
use Rattle.sightline.specs.declared.Columns.{Columns}

pub column-more : (f : PaddedBox → ℕ) (bs : List PaddedBox) (xs : List ℕ) (i : ℕ) (d : PaddedBox) → i < length bs → i < length xs → take i xs ≡ map f (take i bs)
    → take (i + 1) (set xs i (f (get_or bs i d))) ≡ map f (take (i + 1) bs)
column-more f bs xs i d h k e = rw (take_more_set xs i (f (get_or bs i d)) k, map_more f bs i d h, e)

pub columned-line : (bs : List PaddedBox) (s : Columns) (along : Axis) (c ignore : ℕ) → Columned bs s → line_in s along c ignore ≡ line bs along c ignore
columned-line bs s X c ignore h = rw (h.min_x, h.min_y, h.max_x, h.max_y, h.count)
columned-line bs s Y c ignore h = rw (h.min_x, h.min_y, h.max_x, h.max_y, h.count)
