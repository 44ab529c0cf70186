use Rattle.desk_search.proofs.Tests.{query-by}
use Rattle.desk_search.proofs.ok_request.Goals as goal

pub returns : goal.returns
returns c = query-by _ _ _ _ _ _ _ _ c.ok_step.ensures c.ok_step-2.ensures c.ok_ends.ensures
