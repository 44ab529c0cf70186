use Rattle.nodes.proofs.Maps.{map-none}
use Rattle.nodes.proofs.Map.new.Goals as goal

pub returns : goal.returns
returns c = map-none _ _
