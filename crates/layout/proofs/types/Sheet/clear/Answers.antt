-- All zeros.
use Rattle.layout.proofs.Blank.{blank-is}
use Rattle.layout.proofs.types.Sheet.clear.Goals as goal

pub returns-clause-cleared : goal.returns-clause-cleared
returns-clause-cleared c = blank-is _ _ _ _ _ _ _ _ _ _ c.close.ensures c.zero_steps.ensures c.zero_steps-2.ensures c.close-2.ensures c.close-3.ensures
