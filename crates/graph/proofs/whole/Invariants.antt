-- The axis lists so far are those of the anchors so far.
use Rattle.std.proofs.Common.{◌≡◌, ◌≤◌, take}
use Rattle.fixed.specs.Up.{ups}
use Rattle.fixed.specs.Boxes.{anchor_xs, anchor_ys}
use Rattle.axis.specs.Axis.{axis}
use Rattle.graph.proofs.whole.Given as goal

abbrev pub invariant-loop-anchor : goal.invariant-loop-anchor
invariant-loop-anchor l =
    record {
      x_axis : take l.nx (ups l.ax) ≡ axis (anchor_xs l.anchors) l.anchor-index;
      y_axis : take l.ny (ups l.ay) ≡ axis (anchor_ys l.anchors) l.anchor-index;
      few_x : l.nx ≤ l.anchor-index;
      few_y : l.ny ≤ l.anchor-index;
    }
