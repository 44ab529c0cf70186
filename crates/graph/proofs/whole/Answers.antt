-- The axis lists are the first words of two arrays; on them the graph is built.
use Rattle.std.proofs.Common.{◌≡◌, ◌∙◌, length, take, refl, arith}
use Rattle.fixed.specs.Up.{ups}
use Rattle.fixed.proofs.Lists.{ups-take}
use Rattle.fixed.specs.Boxes.{anchor_xs, anchor_ys}
use Rattle.axis.specs.Axis.{axis, inserts}
use Rattle.axis.proofs.Axis.{axis-sorted}
use Rattle.graph.specs.Build.{whole}
use Rattle.graph.proofs.Wholes.{axis-rising, axis-more}
use Rattle.graph.proofs.whole.Goals as goal

pub loop-anchor-init : goal.loop-anchor-init
unfolding inserts
loop-anchor-init c = record { x_axis = refl; y_axis = refl; few_x = omega arith; few_y = omega arith }

pub insert_signed-nx-requires : goal.insert_signed-nx-requires
insert_signed-nx-requires c = (omega arith, rw c.loop-anchor.invariant.x_axis (axis-sorted _ _).rising)

pub insert_signed-ny-requires : goal.insert_signed-ny-requires
insert_signed-ny-requires c = (omega arith, rw c.loop-anchor.invariant.y_axis (axis-sorted _ _).rising)

pub loop-anchor-preserved : goal.loop-anchor-preserved
loop-anchor-preserved c =
    let i = c.loop-anchor.invariant in
    record {
      x_axis = axis-more _ _ _ _ _ _ (omega arith) i.x_axis c.insert_signed-nx.ensures.axis_value;
      y_axis = axis-more _ _ _ _ _ _ (omega arith) i.y_axis c.insert_signed-ny.ensures.axis_value;
      few_x = omega (arith, c.insert_signed-nx.ensures.upper_bound);
      few_y = omega (arith, c.insert_signed-ny.ensures.upper_bound);
    }

pub build-requires : goal.build-requires
build-requires c =
    let i = c.loop-anchor.invariant in
    record { x_rising = rw (ups-take, i.x_axis) (axis-rising _ _); y_rising = rw (ups-take, i.y_axis) (axis-rising _ _) }

pub returns : goal.returns
unfolding whole
returns c =
    let a = c.args.anchors.now in
    let i = c.loop-anchor.invariant in
    let e : c.loop-anchor.anchor-index ≡ length a = omega arith in
    let x : ups (take c.loop-anchor.nx c.loop-anchor.ax) ≡ axis (anchor_xs a) (length a) = ups-take _ _ ∙ rw e at i.x_axis in
    let y : ups (take c.loop-anchor.ny c.loop-anchor.ay) ≡ axis (anchor_ys a) (length a) = ups-take _ _ ∙ rw e at i.y_axis in
    rw (x, y) at c.build.ensures
