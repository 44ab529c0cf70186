use Rattle.net.proofs.Leaves.{refused-is}
use Rattle.connect.proofs.refuse.Goals as goal

pub returns-clause-value : goal.returns-clause-value
returns-clause-value c = refused-is _ _ _ _ _ _ _ _ _ _ _ c.zero_steps.ensures c.zero_steps-2.ensures c.close.ensures c.close-2.ensures
