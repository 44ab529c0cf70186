use native.Mathlib.Omega.{arith}
use lib.ListN.{length-take}
use Rattle.net.specs.Nets.{along_at}
use Rattle.net.proofs.Leaves.{along-in, along-out}
use Rattle.net.proofs.is_along.Goals as goal

pub returns-in-Some : goal.returns-in-Some
unfolding along_at
returns-in-Some c = along-in _ _ _ _ _ c.in-Some.ensures (rw (← c.mark.ensures.value c.in-Some.ensures.1))

pub returns-in-None : goal.returns-in-None
returns-in-None c = let g = c.args.graph.now in along-out _ _ _ (omega (arith, length-take g.count g.marks)) c.in-None.ensures
