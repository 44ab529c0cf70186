use Rattle.std.proofs.Common.{sym, ◌∙◌, arith}
use Rattle.scan.proofs.Folds.{kept-on}
use Rattle.scan.proofs.Walks.{walk-arrived, walk-crowded, walk-stopped, walk-on}
use Rattle.scan.proofs.Builder.walk.Goals as goal

pub returns-in_err-prev-clause-built : goal.returns-in_err-prev-clause-built
returns-in_err-prev-clause-built c =
    rw c.from_residual.ensures (walk-crowded c.loop-k.invariant.walking (omega arith) c.in_err-prev.ensures.met)

pub returns-then-link-clause-built : goal.returns-then-link-clause-built
returns-then-link-clause-built c =
    let p = c.in_ok-prev.ensures.met in
    walk-stopped c.loop-k.invariant.walking _ _ (omega arith) p.0 p.2 (λ q. c.if-link.true (rw c.index.ensures at c.link.ensures.value p.1 ∙ q))

pub loop-k-preserved : goal.loop-k-preserved
loop-k-preserved c =
    let p = c.in_ok-prev.ensures.met in
    record {
      walking = walk-on c.loop-k.invariant.walking _ _ (omega arith) p.0 p.2 p.1 (sym (rw c.index.ensures at c.link.ensures.value p.1) ∙ c.if-link.false);
      kept = kept-on c.loop-k.invariant.kept c.in_ok-prev.ensures.kept;
    }

pub returns-clause-built : goal.returns-clause-built
returns-clause-built c = walk-arrived c.loop-k.invariant.walking (omega arith)
