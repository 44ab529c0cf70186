use Rattle.std.proofs.Common.{refl}
use Rattle.routing.specs.Branches.{put_junction}
use Rattle.routing.proofs.types.Joins.push.Goals as goal

pub returns-clause-value : goal.returns-clause-value
unfolding put_junction
returns-clause-value c = refl
