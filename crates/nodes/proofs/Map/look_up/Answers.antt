use Rattle.std.proofs.Common.{sym, ◌∙◌, arith}
use Rattle.nodes.specs.Graph.{find}
use Rattle.nodes.proofs.Maps.{sought-first, sought-on, sought-here, sought-none}
use Rattle.nodes.proofs.Map.look_up.Goals as goal

pub loop-v-init : goal.loop-v-init
loop-v-init c = rw c.bucket.ensures.0 (sought-first c.requires _ _)

pub returns-then-stands : goal.returns-then-stands
unfolding find
returns-then-stands c =
    (sym (sought-here c.requires _ _ c.loop-v.invariant _ (omega arith) (sym c.stands.ensures ∙ c.if-stands.true)), omega (arith, c.loop-v.invariant.low))

pub loop-v-preserved : goal.loop-v-preserved
loop-v-preserved c = sought-on c.requires _ _ c.loop-v.invariant _ (omega arith) (sym c.stands.ensures ∙ c.if-stands.false)

pub returns : goal.returns
unfolding find
returns c = omega (arith, sought-none c.loop-v.invariant (omega arith))
