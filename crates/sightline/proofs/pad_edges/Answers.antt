-- The edges that were stored stand over what was there.
use Rattle.std.proofs.Common.{◌∙◌, refl, arith}
use Rattle.fixed.specs.Up.{ups}
use Rattle.fixed.proofs.Lists.{length-ups}
use Rattle.sightline.proofs.Padding.{edges-over-none, edges-over}
use Rattle.sightline.proofs.pad_edges.Goals as goal

pub loop-i-init : goal.loop-i-init
loop-i-init c = record { long = refl; over = edges-over-none _ _ _ _ _ }

pub loop-i-preserved : goal.loop-i-preserved
loop-i-preserved c =
    let d = c.args.out.now in
    let step = edges-over _ _ _ _ (ups d) c.loop-i.i _ (omega (arith, length-ups d)) c.pad.ensures in
    record { long = c.put.auto.xs ∙ c.loop-i.invariant.long; over = c.put.ensures ∙ rw c.loop-i.invariant.over step }
