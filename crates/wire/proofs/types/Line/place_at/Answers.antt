use Rattle.std.proofs.Common.{rules}
use Rattle.wire.proofs.Paths.{place-at-node}
use Rattle.wire.proofs.types.Line.place_at.Goals as goal

pub returns-clause-x_value : goal.returns-clause-x_value
returns-clause-x_value c = place-at-node _ _ _ c.requires (c.x.ensures.value (search rules))

pub returns-clause-y_value : goal.returns-clause-y_value
returns-clause-y_value c = place-at-node _ _ _ c.requires (c.y.ensures.value (search rules))
