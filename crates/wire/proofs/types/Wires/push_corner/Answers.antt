use Rattle.wire.specs.Lent.{wires_of}
use Rattle.wire.proofs.Pushes.{corner-pushed}
use Rattle.wire.proofs.types.Wires.push_corner.Goals as goal

pub returns-clause-value : goal.returns-clause-value
returns-clause-value c = corner-pushed (wires_of c.args.self.now) (wires_of c.push_end.new.self) _ _ _ _ c.push_end.ensures.value c.push_vertex.ensures.value
