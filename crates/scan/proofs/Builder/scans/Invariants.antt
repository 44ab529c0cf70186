use Rattle.std.proofs.Common.{◌≤◌}
use Rattle.scan.specs.Lent.{graph_in, page_in, anchor_in, Kept}
use Rattle.scan.specs.Scan.{toward}
use Rattle.scan.proofs.Folds.{Folding}
use Rattle.scan.proofs.Builder.scans.Given as goal

abbrev pub invariant-loop-dir : goal.invariant-loop-dir
invariant-loop-dir l =
    record {
      folding : Folding (toward (page_in l.initial.self.page) (anchor_in l.start.anchor) l.start.node l.start.i l.start.j) 4 (graph_in l.initial.self) (graph_in l.self) l.dir-index;
      more : l.initial.self.graph.now.count ≤ l.self.graph.now.count;
      kept : Kept l.initial.self l.self;
    }
