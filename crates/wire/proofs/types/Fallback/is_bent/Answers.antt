use Rattle.wire.specs.Wires.{bent}
use Rattle.wire.proofs.types.Fallback.is_bent.Goals as goal

pub returns : goal.returns
unfolding bent
returns c = rw (c.ne.ensures, c.ne-2.ensures, c.corner-corner.ensures.x_value, c.corner-corner.ensures.y_value)
