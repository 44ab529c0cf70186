use native.Mathlib.Omega.{arith}
use Rattle.wire.specs.Lent.{wires_of}
use Rattle.wire.proofs.Pushes.{fallback-wire-pushed, fallback-least, vertex-n}
use Rattle.wire.proofs.types.Wires.push_fallback_wire.Goals as goal

pub push_vertex-requires : goal.push_vertex-requires
push_vertex-requires c = let w = c.args.way in omega (arith, fallback-least w.start.x w.start.y w.end.x w.end.y w.along)

pub push_bend-requires : goal.push_bend-requires
push_bend-requires c = omega (arith, vertex-n (wires_of c.args.self.now) (wires_of c.push_vertex.new.self) _ _ _ c.push_vertex.ensures.value)

pub push_vertex-requires-2 : goal.push_vertex-requires-2
push_vertex-requires-2 c = omega (arith, vertex-n (wires_of c.args.self.now) (wires_of c.push_vertex.new.self) _ _ _ c.push_vertex.ensures.value)

pub returns-clause-value : goal.returns-clause-value
returns-clause-value c = fallback-wire-pushed _ _ _ _ _ _ (wires_of c.args.self.now) (wires_of c.push_vertex.new.self) (wires_of c.push_bend.new.self) _ c.push_vertex.ensures.value c.push_bend.ensures.value c.push_vertex-2.ensures.value

pub returns-clause-n_value : goal.returns-clause-n_value
returns-clause-n_value c =
    let a = vertex-n (wires_of c.args.self.now) (wires_of c.push_vertex.new.self) _ _ _ c.push_vertex.ensures.value in
    omega (arith, vertex-n (wires_of c.push_bend.new.self) (wires_of c.push_vertex-2.new.self) _ _ _ c.push_vertex-2.ensures.value)
