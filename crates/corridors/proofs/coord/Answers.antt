-- Past the end there is no coordinate.
use Rattle.corridors.proofs.Laying.{coord-off}
use Rattle.corridors.proofs.coord.Goals as goal

pub returns-else-i-xs : goal.returns-else-i-xs
returns-else-i-xs c = coord-off c.args.xs.now c.args.i c.if-i-xs.false
