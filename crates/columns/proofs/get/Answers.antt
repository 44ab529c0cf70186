use Rattle.std.proofs.Common.{sym}
use Rattle.columns.proofs.Laws.{column-at}
use Rattle.columns.proofs.get.Goals as goal

pub returns : goal.returns
returns c = sym (column-at _ _ _ _ c.requires.0)
