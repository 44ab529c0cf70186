use Rattle.std.proofs.Common.{length}
use Rattle.nodes.specs.Graph.{empty}
use Rattle.nodes.specs.Columns.{graph_of}
use Rattle.nodes.specs.Map.{Keyed}
use Rattle.scan.specs.Lent.{anchors as anchors_of}
use Rattle.scan.specs.Scan.{place_anchor}
use Rattle.scan.proofs.Folds.{Folding}
use Rattle.scan.proofs.build_nodes.Given as goal

abbrev pub invariant-loop-k : goal.invariant-loop-k
invariant-loop-k l =
    record {
      folding : Folding (place_anchor (anchors_of l.anchors l.explicit)) (length l.anchors) empty (graph_of l.graph) l.k;
      keyed : Keyed l.map (graph_of l.graph);
    }
