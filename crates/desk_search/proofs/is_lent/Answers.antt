use Rattle.std.proofs.Common.{refl}
use Rattle.desk_search.proofs.Call.{lent_is}
use Rattle.desk_search.proofs.is_lent.Goals as goal

pub returns : goal.returns
returns c = lent_is _ _ _ _ _ _ refl
