use native.Mathlib.Omega.{arith}
use Rattle.std.proofs.Common.{◌∙◌}
use Rattle.wire.proofs.Seeking.{nearest-take, nearest-keep, nearest_zero}
use Rattle.wire.proofs.Words.{distance-there}
use Rattle.wire.proofs.nearest_end.Goals as goal
use Rattle.wire.proofs.nearest_end.Goals.{else-distance, then-distance}

pub loop-i-init : goal.loop-i-init
loop-i-init c = record { least = nearest_zero _ _ _; below = c.requires.0 }

pub loop-i-preserved : goal.loop-i-preserved
loop-i-preserved c =
    let l = c.loop-i in
    let here = distance-there _ c.args.ends.now l.i _ _ (omega arith) c.distance.ensures in
    let there = distance-there _ c.args.ends.now l.best _ _ (omega (arith, l.invariant.below)) c.distance-in-loop-i.ensures in
    record {
      least = elim c.if-distance.branch [ then-distance w ↦ w.best-is ∙ nearest-take _ _ _ l.i l.best l.invariant.least _ _ here there w.if-distance.true | else-distance w ↦ w.best-is ∙ nearest-keep _ _ _ l.i l.best l.invariant.least _ _ here there w.if-distance.false ];
      below = elim c.if-distance.branch [ then-distance w ↦ omega arith | else-distance w ↦ omega arith ];
    }
