use Rattle.std.proofs.Common.{arith}
use Rattle.nodes.specs.Columns.{graph_of}
use Rattle.nodes.proofs.Nodes.{find-le}
use Rattle.nodes.proofs.Columns.{placed_met, placed-new, full-new}
use Rattle.nodes.proofs.Maps.{keyed-new}
use Rattle.nodes.proofs.Graph.place.Goals as goal

pub returns-in-Some-clause-met : goal.returns-in-Some-clause-met
returns-in-Some-clause-met c =
    (c.in-Some.ensures.0, c.in-Some.ensures.1, placed_met c.args.self.now c.args.x c.args.y c.args.m c.in-Some.i c.in-Some.ensures.0 c.in-Some.ensures.1)

pub returns-then-i-eq-NODES-clause-met : goal.returns-then-i-eq-NODES-clause-met
returns-then-i-eq-NODES-clause-met c = omega (arith, full-new c.args.self.now c.args.x c.args.y c.args.m c.in_default.ensures)

pub returns-clause-met : goal.returns-clause-met
returns-clause-met c =
    let s = c.args.self.now in
    let made = placed-new s c.args.x c.args.y c.args.m c.in_default.ensures _ _ c.put.ensures c.put-2.ensures (omega arith) (omega arith) (omega arith) (omega arith) in
    (omega (arith, c.in_default.ensures, find-le (graph_of s) c.args.x c.args.y), omega arith, made)

pub returns-clause-keyed : goal.returns-clause-keyed
returns-clause-keyed c =
    keyed-new c.args.self.now c.args.x c.args.y _ _ c.put.ensures c.put-2.ensures c.requires c.in_default.ensures (omega arith) (omega arith) (omega arith) (omega arith) c.enter.ensures
