use native.Mathlib.Omega.{arith}
use Prim.Native.Nat.{◌-◌}
use Rattle.wire.specs.Lent.{line_in}
use Rattle.wire.proofs.Counts.{kept-le, kept_on, kept_more, kept-none}
use Rattle.wire.proofs.types.Line.vertices.Goals as goal
use Rattle.wire.proofs.types.Line.vertices.Goals.{else-not-is_straight, then-not-is_straight}

pub loop-i-init : goal.loop-i-init
loop-i-init c = kept-none _ _

pub overflow_add-total : goal.overflow_add-total
overflow_add-total c =
    let l = c.loop-i in
    let line = line_in c.args.self in
    omega (arith, kept-le line.kinds line.ways (l.i - 1), c.args.self.few)

pub loop-i-preserved : goal.loop-i-preserved
loop-i-preserved c =
    let l = c.loop-i in
    elim c.if-not-is_straight.branch [ then-not-is_straight w ↦ omega (arith, w.total-is, l.invariant, kept_more _ _ l.i (omega arith) _ c.is_straight.ensures w.if-not-is_straight.true) | else-not-is_straight w ↦ omega (arith, w.total-is, l.invariant, kept_on _ _ l.i (omega arith) _ c.is_straight.ensures w.if-not-is_straight.false) ]
