-- The first i ends are looked at, and those that count stand first.
use Rattle.std.proofs.Common.{◌≡◌}
use Rattle.path_finding.specs.Lent.{graph_in, Kept}
use Rattle.path_finding.proofs.Laws.{Gathering}
use Rattle.path_finding.proofs.Finder.gather.Given as goal

abbrev pub invariant-loop-i : goal.invariant-loop-i
invariant-loop-i l = record {
  gathering : Gathering l.fn.self.graph.now.count l.k (graph_in l.fn.self).links l.fn.self.list.now l.fn.self.cells.now l.self.list.now l.self.cells.now l.m l.i;
  tree : l.self.tree.now ≡ l.fn.self.tree.now;
  kept : Kept l.fn.self l.self;
}
