use Rattle.columns.proofs.Laws.{column-set, column-other}
use Rattle.columns.proofs.put.Goals as goal

pub returns : goal.returns
returns c = (column-set _ _ _ _ c.args.list.now c.requires.0 c.requires.1, column-other _ _ _ _ c.args.list.now c.requires.0 c.requires.1)
