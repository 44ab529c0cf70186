use Rattle.scan.specs.Lent.{graph_in, way_in, Kept}
use Rattle.scan.proofs.Walks.{Walking}
use Rattle.scan.proofs.Builder.walk.Given as goal

abbrev pub invariant-loop-k : goal.invariant-loop-k
invariant-loop-k l =
    record {
      walking : Walking (way_in l.way) (graph_in l.initial.self) l.start l.m (graph_in l.self) l.prev l.k;
      kept : Kept l.initial.self l.self;
    }
