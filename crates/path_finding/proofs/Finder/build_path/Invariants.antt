use Rattle.std.proofs.Common.{◌≡◌, length}
use Rattle.astar.specs.Scratch.{preds}
use Rattle.path_finding.specs.Lent.{Kept}
use Rattle.path_finding.proofs.Tracing.{Walked}
use Rattle.path_finding.proofs.Finder.build_path.Given as goal

abbrev pub invariant-loop-node : goal.invariant-loop-node
invariant-loop-node l = record {
  walked : Walked l.fn.self.graph.now.count (length l.fn.self.list.now) (preds l.fn.self.graph.now.count l.fn.self.cells.now) l.end l.self.list.now l.node l.at;
  kept : Kept l.fn.self l.self;
  cells : l.self.cells ≡ l.fn.self.cells;
}

abbrev pub decreases-loop-node : goal.decreases-loop-node
decreases-loop-node l = l.at
