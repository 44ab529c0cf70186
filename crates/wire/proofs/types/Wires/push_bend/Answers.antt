use native.Mathlib.Omega.{arith}
use Rattle.std.proofs.Common.{refl}
use Rattle.wire.specs.Lent.{wires_of}
use Rattle.wire.specs.Wires.{corner_x, corner_y}
use Rattle.wire.proofs.Pushes.{three, two, bend-pushed, no-bend, vertex-n}
use Rattle.wire.proofs.types.Wires.push_bend.Goals as goal

pub push_vertex-requires : goal.push_vertex-requires
push_vertex-requires c = let w = c.args.way in let t = three w.start.x w.start.y w.end.x w.end.y w.along (corner_x w.along w.start.x w.end.x) (corner_y w.along w.start.y w.end.y) refl refl _ c.is_bent.ensures c.if-is_bent.true in omega arith

pub returns-then-is_bent-clause-value : goal.returns-then-is_bent-clause-value
returns-then-is_bent-clause-value c =
    let w = c.args.way in
    bend-pushed w.start.x w.start.y w.end.x w.end.y w.along _ _ c.corner.ensures.x_value c.corner.ensures.y_value _ (rw (c.corner.ensures.x_value, c.corner.ensures.y_value) c.is_bent.ensures) (wires_of c.args.self.now) _ c.if-is_bent.true c.push_vertex.ensures.value

pub returns-then-is_bent-clause-n_value : goal.returns-then-is_bent-clause-n_value
returns-then-is_bent-clause-n_value c =
    let w = c.args.way in let t = three w.start.x w.start.y w.end.x w.end.y w.along (corner_x w.along w.start.x w.end.x) (corner_y w.along w.start.y w.end.y) refl refl _ c.is_bent.ensures c.if-is_bent.true in
    omega (arith, vertex-n (wires_of c.args.self.now) (wires_of c.push_vertex.new.self) _ _ _ c.push_vertex.ensures.value)

pub returns-else-is_bent-clause-value : goal.returns-else-is_bent-clause-value
returns-else-is_bent-clause-value c = let w = c.args.way in no-bend w.start.x w.start.y w.end.x w.end.y w.along (corner_x w.along w.start.x w.end.x) (corner_y w.along w.start.y w.end.y) refl refl _ c.is_bent.ensures (wires_of c.args.self.now) c.if-is_bent.false

pub returns-else-is_bent-clause-n_value : goal.returns-else-is_bent-clause-n_value
returns-else-is_bent-clause-n_value c = let w = c.args.way in let t = two w.start.x w.start.y w.end.x w.end.y w.along (corner_x w.along w.start.x w.end.x) (corner_y w.along w.start.y w.end.y) refl refl _ c.is_bent.ensures c.if-is_bent.false in omega arith
