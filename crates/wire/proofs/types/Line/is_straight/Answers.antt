use Rattle.wire.proofs.Paths.{straight-at}
use Rattle.wire.proofs.types.Line.is_straight.Goals as goal

pub returns : goal.returns
returns c = straight-at _ _ _ c.requires.0 c.requires.1 _ _ c.direction-onward.ensures c.direction-before.ensures
