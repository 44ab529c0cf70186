use native.Mathlib.Omega.{arith}
use Rattle.wire.specs.Lent.{wires_of}
use Rattle.wire.proofs.Pushes.{fallback-pushed, fallback-least, end-m, end-n, net-m}
use Rattle.wire.proofs.types.Wires.push_fallback_vertices.Goals as goal

pub overflow_sub-self : goal.overflow_sub-self
overflow_sub-self c =
    let w = c.args.way in
    let n = end-n (wires_of c.push_fallback_wire.new.self) (wires_of c.push_end.new.self) _ _ _ _ c.push_end.ensures.value in
    omega (arith, fallback-least w.start.x w.start.y w.end.x w.end.y w.along)

pub push_end-requires-2 : goal.push_end-requires-2
push_end-requires-2 c =
    let m = end-m (wires_of c.push_fallback_wire.new.self) (wires_of c.push_end.new.self) _ _ _ _ c.push_end.ensures.value in
    let k = net-m (wires_of c.args.self.now) (wires_of c.push_fallback_wire.new.self) _ c.push_fallback_wire.ensures.value in
    (omega arith, omega (arith, c.push_end.new.self.few_vertices))

pub returns-clause-value : goal.returns-clause-value
returns-clause-value c = fallback-pushed _ _ _ _ _ _ (wires_of c.args.self.now) (wires_of c.push_fallback_wire.new.self) (wires_of c.push_end.new.self) _ c.push_fallback_wire.ensures.value c.push_end.ensures.value c.push_end-2.ensures.value
