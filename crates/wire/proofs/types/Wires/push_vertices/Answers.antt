use native.Mathlib.Omega.{arith}
use Rattle.wire.specs.Lent.{line_in, wires_of}
use Rattle.wire.proofs.Pushes.{line-pushed, start-n, start-m, start-ends-m, start-ends-n}
use Rattle.wire.proofs.types.Wires.push_vertices.Goals as goal

pub push_nodes-requires-clause-room : goal.push_nodes-requires-clause-room
push_nodes-requires-clause-room c =
    let L = line_in c.args.line in
    let W = wires_of c.args.self.now in
    let X = wires_of c.push_start.new.self in
    let Y = wires_of c.push_start_ends.new.self in
    let n = start-n L c.args.is_root W X c.push_start.ensures.value in
    let m = start-m L c.args.is_root W X c.push_start.ensures.value in
    let k = start-ends-n L c.args.self.now.n X Y c.push_start_ends.ensures.value in
    let e = start-ends-m L c.args.self.now.n X Y c.push_start_ends.ensures.value in
    (omega arith, omega arith, omega arith)

pub returns-clause-value : goal.returns-clause-value
returns-clause-value c = line-pushed _ _ _ (wires_of c.args.self.now) (wires_of c.push_start.new.self) (wires_of c.push_start_ends.new.self) _ c.push_start.ensures.value c.push_start_ends.ensures.value c.push_nodes.ensures.value
