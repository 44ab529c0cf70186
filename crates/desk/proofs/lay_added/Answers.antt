-- `desk::lay_added` meets its contract.
use Rattle.desk.proofs.Whole
use Rattle.desk.proofs.lay_added.Goals as goal

pub returns : goal.returns
returns c = Whole.laid_out _ _ _ _ c.from.ensures c.lay.ensures
