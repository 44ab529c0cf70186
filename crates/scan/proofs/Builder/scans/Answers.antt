use Rattle.std.proofs.Common.{ap, arith}
use Rattle.nodes.specs.Graph.{Graph}
use Rattle.scan.specs.Lent.{graph_in, page_in, anchor_in}
use Rattle.scan.specs.Scan.{scans}
use Rattle.scan.proofs.Folds.{fold_on, fold-crowded, fold-arrived, kept-on}
use Rattle.scan.proofs.Grows.{toward-grow}
use Rattle.scan.proofs.Reaches.{in-order}
use Rattle.scan.proofs.Builder.scans.Goals as goal

pub returns-in_err-toward-clause-built : goal.returns-in_err-toward-clause-built
unfolding scans
returns-in_err-toward-clause-built c =
    let e = rw (in-order c.loop-dir.dir-index (omega arith), c.loop-dir.invariant.kept.same_page) at c.in_err-toward.ensures.built in
    rw c.from_residual.ensures (fold-crowded c.loop-dir.invariant.folding (toward-grow _ _ _ _ _) (omega arith) e)

pub loop-dir-preserved : goal.loop-dir-preserved
loop-dir-preserved c =
    let s = c.args.start in
    let e = rw (in-order c.loop-dir.dir-index (omega arith), c.loop-dir.invariant.kept.same_page) at c.in_ok-toward.ensures.built in
    record {
      folding = fold_on c.loop-dir.invariant.folding _ (omega arith) e;
      more = omega (arith, (toward-grow (page_in c.args.self.now.page) (anchor_in s.anchor) s.node s.i s.j).grows c.loop-dir.dir-index (graph_in c.loop-dir.self), ap (λ (g : Graph). g.count) e);
      kept = kept-on c.loop-dir.invariant.kept c.in_ok-toward.ensures.kept;
    }

pub returns-clause-built : goal.returns-clause-built
unfolding scans
returns-clause-built c = fold-arrived c.loop-dir.invariant.folding (omega arith)
