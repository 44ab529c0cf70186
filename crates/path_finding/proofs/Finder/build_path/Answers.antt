use Rattle.std.proofs.Common.{rules}
use Rattle.astar.proofs.Trace.{trace-in}
use Rattle.path_finding.proofs.Tracing.{walk-on}
use Rattle.path_finding.proofs.Finder.build_path.Goals as goal

pub pred-node-requires : goal.pred-node-requires
pred-node-requires c =
    let walked = rw c.in-Some.is at c.loop-node.invariant.walked in
    rw c.loop-node.invariant.kept.same_graph (trace-in _ _ _ _ _ _ _ walked)

pub loop-node-preserved : goal.loop-node-preserved
loop-node-preserved c =
    let walked = rw c.in-Some.is at c.loop-node.invariant.walked in
    let pred = rw (c.loop-node.invariant.kept.same_graph, c.loop-node.invariant.cells) at c.pred-node.ensures in
    record { walked = walk-on _ _ _ _ _ _ _ walked _ pred; kept = search rules; cells = c.loop-node.invariant.cells }
