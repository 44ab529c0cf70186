use mathlib.Core.Path.{ap}
use lib.IntN.{nat_abs}
use Rattle.fixed.proofs.Machine.{sum_back}
use Rattle.fixed.proofs.up.Goals as goal

pub returns : goal.returns
returns c = ap nat_abs (sum_back c.args.x c.ranges.x)
