use native.Mathlib.Omega.{arith}
use Rattle.layout.proofs.Laying.{nets-none, nets-end}
use Rattle.layout.proofs.lay_nets.Goals as goal

pub returns-then-records-eq0-clause-value : goal.returns-then-records-eq0-clause-value
returns-then-records-eq0-clause-value c = nets-end _ _ _ _ _ _ _ _ (omega arith) (nets-none _ _ _ _ _)
