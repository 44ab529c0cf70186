use Rattle.std.proofs.Common.{◌≡◌, ◌∙◌, arith}
use Rattle.fixed.specs.Boxes.{directions_of}
use Rattle.scan.specs.Scan.{mark, build_nodes}
use Rattle.scan.proofs.Folds.{fold_on, fold-crowded, fold-arrived}
use Rattle.scan.proofs.Grows.{place-grow, mark-explicit, mark-implicit, placed-by}
use Rattle.scan.proofs.build_nodes.Goals.{then-k-explicit, else-k-explicit}
use Rattle.scan.proofs.build_nodes.Goals as goal

pub returns-in_err-place-clause-built : goal.returns-in_err-place-clause-built
unfolding build_nodes
returns-in_err-place-clause-built c =
    let m : c.if-k-explicit.mark ≡ mark (directions_of c.args.anchors.now) c.args.explicit c.loop-k.k =
    elim c.if-k-explicit.branch [ then-k-explicit w ↦ w.mark-is ∙ mark-explicit _ _ _ _ (omega arith) (omega arith) | else-k-explicit w ↦ w.mark-is ∙ mark-implicit _ _ _ _ (omega arith) (omega arith) ] in
    rw c.from_residual.ensures (fold-crowded c.loop-k.invariant.folding (place-grow _) (omega arith) (rw (placed-by _ _ _ _ (omega arith) _ _ m) at c.in_err-place.ensures.met))

pub loop-k-preserved : goal.loop-k-preserved
loop-k-preserved c =
    let p = c.in_ok-place.ensures in
    let m : c.if-k-explicit.mark ≡ mark (directions_of c.args.anchors.now) c.args.explicit c.loop-k.k =
    elim c.if-k-explicit.branch [ then-k-explicit w ↦ w.mark-is ∙ mark-explicit _ _ _ _ (omega arith) (omega arith) | else-k-explicit w ↦ w.mark-is ∙ mark-implicit _ _ _ _ (omega arith) (omega arith) ] in
    record { folding = fold_on c.loop-k.invariant.folding _ (omega arith) (p.met.2 ∙ placed-by _ _ _ _ (omega arith) _ _ m); keyed = p.keyed }

pub returns-clause-built : goal.returns-clause-built
unfolding build_nodes
returns-clause-built c = fold-arrived c.loop-k.invariant.folding (omega arith)
