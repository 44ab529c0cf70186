use native.Mathlib.Omega.{arith}
use Rattle.wire.specs.Lent.{wires_of}
use Rattle.wire.proofs.Pushes.{dummies-pushed, vertex-n}
use Rattle.wire.proofs.types.Wires.push_dummies.Goals as goal

pub push_vertex-requires-2 : goal.push_vertex-requires-2
push_vertex-requires-2 c = omega (arith, vertex-n (wires_of c.args.self.now) (wires_of c.push_vertex.new.self) _ _ _ c.push_vertex.ensures.value)

pub returns-clause-value : goal.returns-clause-value
returns-clause-value c = dummies-pushed (wires_of c.args.self.now) (wires_of c.push_vertex.new.self) _ _ _ _
    (rw (← c.place_at-first.ensures.x_value, ← c.place_at-next.ensures.x_value) c.dummy_pos.ensures)
    (rw (← c.place_at-first.ensures.y_value, ← c.place_at-next.ensures.y_value) c.dummy_pos-2.ensures)
    c.push_vertex.ensures.value c.push_vertex-2.ensures.value
