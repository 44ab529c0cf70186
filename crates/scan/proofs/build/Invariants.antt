use Rattle.std.proofs.Common.{length}
use Rattle.scan.specs.Lent.{graph_in, page_in, Kept, anchors as anchors_of}
use Rattle.scan.specs.Scan.{scan_at, build_nodes}
use Rattle.scan.proofs.Folds.{Folding}
use Rattle.scan.proofs.build.Given as goal

abbrev pub invariant-loop-anchor : goal.invariant-loop-anchor
invariant-loop-anchor l =
    record {
      folding : Folding (scan_at (page_in l.page) (anchors_of l.anchors l.explicit)) (length l.anchors) (build_nodes (anchors_of l.anchors l.explicit)) (graph_in l.builder) l.anchor-index;
      kept : Kept l.initial.builder l.builder;
    }
