use Rattle.std.proofs.Common.{◌∙◌, arith}
use Rattle.path_finding.proofs.Laws.{table-begin, table_more, direction-off}
use Rattle.path_finding.proofs.Lines.{table-closed}
use Rattle.path_finding.proofs.write_directions.Goals as goal

pub loop-k-init : goal.loop-k-init
loop-k-init c = table-begin _

pub loop-k-preserved : goal.loop-k-preserved
loop-k-preserved c = table_more _ _ _ _ c.loop-k.invariant (omega arith) c.direction.ensures

pub returns : goal.returns
returns c = c.close.ensures ∙ table-closed _ _ _ _ _ _ c.loop-k.invariant (omega arith) (omega arith) c.loop-k.auto.to (λ k a b. direction-off _ _ k (omega arith))
