use native.Mathlib.Omega.{arith}
use Rattle.std.proofs.Common.{refl, ◌∙◌, ◌≡◌, ◌/◌, length}
use Rattle.std.specs.List.{take-map}
use Rattle.wire.specs.declared.types.Place.{Place}
use Rattle.net.proofs.Leaves.{column-none, column-end, point-on, point-off}
use Rattle.net.proofs.take_points.Goals as goal
use Rattle.net.proofs.take_points.Goals.{then-ends-k, else-ends-k}

pub loop-k-init : goal.loop-k-init
loop-k-init c = record { few = omega arith; long = refl; x_value = column-none _ _ _; y_value = column-none _ _ _ }

pub loop-k-preserved : goal.loop-k-preserved
loop-k-preserved c =
    let l = c.loop-k in
    let b = c.if-ends-k.branch in
    record {
      few = elim b [ then-ends-k w ↦ omega (arith, w.m-is, l.invariant.few) | else-ends-k w ↦ omega (arith, w.m-is, l.invariant.few) ];
      long = c.if-ends-k.auto.points ∙ l.invariant.long;
      x_value = elim b [ then-ends-k w ↦ point-on _ _ _ 1 (λ (p : Place). p.x) l.points _ l.m _ l.invariant.x_value _ w.if-ends-k.true w.points-is w.m-is (omega (arith, l.invariant.few, l.invariant.long)) refl | else-ends-k w ↦ point-off _ _ _ 1 (λ (p : Place). p.x) l.points _ l.m _ l.invariant.x_value w.if-ends-k.false w.points-is w.m-is ];
      y_value = elim b [ then-ends-k w ↦ point-on _ _ _ 2 (λ (p : Place). p.y) l.points _ l.m _ l.invariant.y_value _ w.if-ends-k.true w.points-is w.m-is (omega (arith, l.invariant.few, l.invariant.long)) refl | else-ends-k w ↦ point-off _ _ _ 2 (λ (p : Place). p.y) l.points _ l.m _ l.invariant.y_value w.if-ends-k.false w.points-is w.m-is ];
    }

pub returns-clause-x_value : goal.returns-clause-x_value
returns-clause-x_value c =
    let e : c.loop-k.k ≡ length c.args.ends.now / 4 = omega arith in
    rw (← take-map (λ (p : Place). p.x) c.loop-k.m c.loop-k.points) (column-end _ _ _ _ _ _ e c.loop-k.invariant.x_value)

pub returns-clause-y_value : goal.returns-clause-y_value
returns-clause-y_value c =
    let e : c.loop-k.k ≡ length c.args.ends.now / 4 = omega arith in
    rw (← take-map (λ (p : Place). p.y) c.loop-k.m c.loop-k.points) (column-end _ _ _ _ _ _ e c.loop-k.invariant.y_value)
