use Rattle.std.proofs.Common.{◌∙◌, arith}
use Rattle.nodes.proofs.Maps.{entered-long, map_next}
use Rattle.nodes.proofs.Map.of.Goals as goal

pub loop-i-preserved : goal.loop-i-preserved
loop-i-preserved c =
    let e = entered-long _ _ _ _ c.enter.ensures in
    let inside = c.loop-i-test.true in
    record {
      first_long = e.0 ∙ c.loop-i.invariant.first_long;
      next_long = e.1 ∙ c.loop-i.invariant.next_long;
      mapped = map_next c.loop-i.invariant.mapped c.requires inside _ _ (omega arith) (omega arith) (c.x.ensures.value inside) (c.y.ensures.value inside) c.enter.ensures;
    }
