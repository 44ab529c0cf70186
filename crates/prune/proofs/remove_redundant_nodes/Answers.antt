use Rattle.std.proofs.Common.{refl, arith}
use Rattle.prune.proofs.Lent.{prune-on, prune-done}
use Rattle.prune.proofs.remove_redundant_nodes.Goals as goal

pub loop-i-preserved : goal.loop-i-preserved
loop-i-preserved c = prune-on _ c.loop-i.invariant (omega arith) c.prune_at.ensures.value (omega arith) (omega arith)

pub returns : goal.returns
returns c = prune-done c.loop-i.invariant (omega arith) refl
