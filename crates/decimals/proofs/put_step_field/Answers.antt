use native.Mathlib.Omega.{arith}
use Rattle.decimals.proofs.Written as W
use Rattle.decimals.proofs.put_step_field.Goals as goal

pub returns : goal.returns
returns c = W.field_put _ _ _ _ _ (omega arith) c.put_step.ensures
