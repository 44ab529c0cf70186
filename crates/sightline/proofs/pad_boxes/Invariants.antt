-- The edges of the boxes that were stored.
use Rattle.std.proofs.Common.{◌≡◌, false, true, take}
use Rattle.fixed.specs.Boxes.{min_xs, min_ys, max_xs, max_ys}
use Rattle.sightline.specs.Boxes.{edges}
use Rattle.sightline.proofs.pad_boxes.Given as goal

abbrev pub invariant-loop-i : goal.invariant-loop-i
invariant-loop-i l = record {
  min_x : min_xs (take l.i l.out) ≡ edges l.rows 5 1 false l.i;
  min_y : min_ys (take l.i l.out) ≡ edges l.rows 5 2 false l.i;
  max_x : max_xs (take l.i l.out) ≡ edges l.rows 5 3 true l.i;
  max_y : max_ys (take l.i l.out) ≡ edges l.rows 5 4 true l.i;
}
