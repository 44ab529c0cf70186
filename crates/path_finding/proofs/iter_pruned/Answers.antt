use Rattle.std.proofs.Common.{sym, ◌∙◌, arith}
use Rattle.path_finding.proofs.Laws.{snoc, pruned-begin, pruned-on, pruned-off}
use Rattle.path_finding.proofs.iter_pruned.Goals as goal
use Rattle.path_finding.proofs.iter_pruned.Goals.{then-is_kept, else-is_kept}

pub loop-k-init : goal.loop-k-init
loop-k-init c = (omega arith, pruned-begin _ _)

pub loop-k-preserved : goal.loop-k-preserved
loop-k-preserved c =
    elim c.if-is_kept.branch [
      | then-is_kept w ↦ rw (w.r-is, w.kept-is) (omega (arith, c.loop-k.invariant.0), snoc _ _ _ (omega arith) ∙ pruned-on _ _ _ _ c.loop-k.invariant.1 (sym w.if-is_kept.true ∙ c.is_kept.ensures))
      | else-is_kept w ↦ rw (w.r-is, w.kept-is) (omega (arith, c.loop-k.invariant.0), pruned-off _ _ _ _ c.loop-k.invariant.1 (sym w.if-is_kept.false ∙ c.is_kept.ensures))
    ]
