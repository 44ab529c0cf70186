use mathlib.Core.Path.{ap}
use native.Mathlib.Omega.{arith}
use Rattle.decimals.proofs.Written as W
use lib.ListN.{length, length-set}
use Rattle.decimals.proofs.put_step.Goals as goal

pub bounds-buf-at : goal.bounds-buf-at
bounds-buf-at c = omega (arith, ap length (W.signed_low c.args.u (omega arith)))

pub put_digits-requires : goal.put_digits-requires
put_digits-requires c = simp length-set (omega (arith, ap length (W.signed_low c.args.u (omega arith))))

pub returns-then-u-lt-BIAS : goal.returns-then-u-lt-BIAS
returns-then-u-lt-BIAS c = W.step-low _ _ _ _ _ (omega arith) (omega arith) c.put_digits.ensures
