use Rattle.std.proofs.Common.{refl, ◌≡◌, ◌-◌}
use native.Mathlib.Omega.{arith}
use Rattle.wire.proofs.Seeking.{first-begin, first-here, first_on, first-none, first_is}
use Rattle.wire.proofs.Words.{stands-there}
use Rattle.wire.proofs.junction_end.Goals as goal

pub loop-i-init : goal.loop-i-init
loop-i-init c = first-begin _ _ _ _ 0

pub returns-then-eq-clause-value : goal.returns-then-eq-clause-value
returns-then-eq-clause-value c =
    first_is _ _ _ _ _ _ refl (first-here _ _ _ _ _ (omega arith) _ (stands-there _ c.args.ends.now c.loop-i.i _ _ (omega arith) c.eq.ensures) c.if-eq.true c.loop-i.invariant)

pub loop-i-preserved : goal.loop-i-preserved
loop-i-preserved c = first_on _ _ _ _ _ (omega arith) _ (stands-there _ c.args.ends.now c.loop-i.i _ _ (omega arith) c.eq.ensures) c.if-eq.false c.loop-i.invariant

pub returns-clause-value : goal.returns-clause-value
returns-clause-value c =
    let e : c.args.m - 1 ≡ c.loop-i.i = omega arith in
    rw e (first_is _ _ _ _ _ _ refl (first-none _ _ _ _ _ (omega arith) c.loop-i.invariant))
