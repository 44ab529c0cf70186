use Rattle.std.proofs.Common.{rules}
use native.Mathlib.Omega.{arith}
use Prim.Native.Nat.{◌-◌}
use lib.ListN.{length}
use Rattle.wire.specs.Lent.{line_in, wires_of}
use Rattle.wire.proofs.Counts.{kept-room-at}
use Rattle.wire.proofs.Keeping.{wires_trans}
use Rattle.wire.proofs.Pushes.{nodes-none, nodes-more, nodes-total, nodes-total-m}
use Rattle.wire.proofs.types.Wires.push_nodes.Goals as goal

pub loop-i-init : goal.loop-i-init
loop-i-init c = record { value = nodes-none _ _ _; kept = search rules }

pub push_node-requires-clause-room : goal.push_node-requires-clause-room
push_node-requires-clause-room c =
    let l = c.loop-i in
    let L = line_in c.args.line in
    let t = nodes-total L c.args.junction (l.i - 1) (wires_of c.args.self.now) (wires_of l.self) l.invariant.value in
    let m = nodes-total-m L c.args.junction (l.i - 1) (wires_of c.args.self.now) (wires_of l.self) l.invariant.value in
    (omega arith, λ f. omega (arith, kept-room-at L.kinds L.ways (length c.args.line.path.now) l.i (omega arith) (omega arith) f), omega arith)

pub loop-i-preserved : goal.loop-i-preserved
loop-i-preserved c =
    let l = c.loop-i in
    record { value = nodes-more _ _ l.i _ (wires_of l.self) _ (omega arith) l.invariant.value c.push_node.ensures.value; kept = wires_trans l.invariant.kept c.push_node.ensures.kept }
