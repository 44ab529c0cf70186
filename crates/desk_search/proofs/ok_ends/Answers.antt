-- `desk_search::ok_ends` meets its contract. Both lists pass the scan.
use Rattle.desk_search.proofs.Tests.{ends_by}
use Rattle.desk_search.proofs.ok_ends.Goals as goal

pub returns : goal.returns
returns c = ends_by _ _ _ _ c.ok_steps.ensures c.ok_steps-2.ensures
