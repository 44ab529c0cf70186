use Rattle.wire.specs.Wires.{push_vertex}
use Rattle.wire.proofs.types.Wires.push_vertex.Goals as goal

pub returns-clause-value : goal.returns-clause-value
unfolding push_vertex
returns-clause-value c = let e = c.put_vertex.ensures in rw (e.0, e.1, e.2)
