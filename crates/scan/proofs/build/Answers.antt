use Rattle.std.proofs.Common.{◌∙◌, arith, rules}
use Rattle.scan.specs.Scan.{build}
use Rattle.scan.proofs.Folds.{fold_on, fold-crowded, fold-arrived, kept-on}
use Rattle.scan.proofs.Grows.{scan-grow, build-full, scan-same, scan-full}
use Rattle.scan.proofs.build.Goals as goal

pub returns-in_err-build_nodes : goal.returns-in_err-build_nodes
returns-in_err-build_nodes c = rw c.from_residual.ensures (build-full _ _ c.in_err-build_nodes.ensures.built)

pub returns-in_err-scan_anchor : goal.returns-in_err-scan_anchor
unfolding build
returns-in_err-scan_anchor c =
    let p = c.loop-anchor.invariant.kept.same_page ∙ c.in_ok-build_nodes.ensures.kept.same_page in
    rw c.from_residual-in_err-scan_anchor.ensures (fold-crowded c.loop-anchor.invariant.folding (scan-grow _ _) (omega arith) (scan-full _ _ _ _ (omega arith) _ _ (rw p at c.in_err-scan_anchor.ensures.built)))

pub loop-anchor-preserved : goal.loop-anchor-preserved
loop-anchor-preserved c =
    let p = c.loop-anchor.invariant.kept.same_page ∙ c.in_ok-build_nodes.ensures.kept.same_page in
    record {
      folding = fold_on c.loop-anchor.invariant.folding _ (omega arith) (scan-same _ _ _ _ (omega arith) _ _ (rw p at c.in_ok-scan_anchor.ensures.built));
      kept = kept-on c.loop-anchor.invariant.kept c.in_ok-scan_anchor.ensures.kept;
    }

pub returns : goal.returns
unfolding build
returns c =
    let e = fold-arrived c.loop-anchor.invariant.folding c.loop-anchor-test.false in
    let k = c.loop-anchor.invariant.kept.same_graph ∙ c.in_ok-build_nodes.ensures.kept.same_graph in
    search (rules, e, k)
