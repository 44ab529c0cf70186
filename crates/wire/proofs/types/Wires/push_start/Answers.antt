use native.Mathlib.Omega.{arith}
use Rattle.wire.specs.Lent.{wires_of}
use Rattle.wire.proofs.Pushes.{start-pushed, vertex-n}
use Rattle.wire.proofs.types.Wires.push_start.Goals as goal

pub push_dummies-requires : goal.push_dummies-requires
push_dummies-requires c = let e = vertex-n (wires_of c.args.self.now) (wires_of c.push_vertex.new.self) _ _ _ c.push_vertex.ensures.value in (omega arith, omega arith)

pub returns-clause-value : goal.returns-clause-value
returns-clause-value c = start-pushed (wires_of c.args.self.now) (wires_of c.push_vertex.new.self) _ _ _ _ _ c.place_at.ensures.x_value c.place_at.ensures.y_value c.push_vertex.ensures.value c.push_dummies.ensures.value
