-- The boxes that were passed stand in the columns.
use Rattle.std.proofs.Common.{◌≡◌, length, take}
use Rattle.fixed.specs.Constants.{BOXES}
use Rattle.fixed.specs.Boxes.{min_xs, min_ys, max_xs, max_ys}
use Rattle.sightline.proofs.Columns.of.Given as goal

abbrev pub invariant-loop-i : goal.invariant-loop-i
invariant-loop-i l = record {
  long : (length l.min_x ≡ BOXES) × (length l.min_y ≡ BOXES) × (length l.max_x ≡ BOXES) × (length l.max_y ≡ BOXES);
  min_x : take l.i l.min_x ≡ min_xs (take l.i l.boxes);
  min_y : take l.i l.min_y ≡ min_ys (take l.i l.boxes);
  max_x : take l.i l.max_x ≡ max_xs (take l.i l.boxes);
  max_y : take l.i l.max_y ≡ max_ys (take l.i l.boxes);
}
