use Rattle.std.proofs.Common.{◌∙◌, arith}
use Rattle.fixed.proofs.Lists.{length-ups}
use Rattle.path_finding.proofs.Laws.{table-begin, table-put, place_on, place-off}
use Rattle.path_finding.proofs.Lines.{table-closed}
use Rattle.path_finding.proofs.write_places.Goals as goal

pub loop-k-init : goal.loop-k-init
loop-k-init c = table-begin _

pub loop-k-preserved : goal.loop-k-preserved
loop-k-preserved c = table-put _ _ _ _ _ c.loop-k.invariant (omega arith) c.put.ensures (c.at.ensures ∙ place_on _ _ _ (omega arith))

pub returns : goal.returns
returns c =
    c.zero_steps.ensures ∙ table-closed _ _ _ _ _ _ c.loop-k.invariant (omega arith) (omega arith) (length-ups _ ∙ c.loop-k.auto.to) (λ k a b. place-off _ _ k (omega arith))
