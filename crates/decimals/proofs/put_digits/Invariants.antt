use Rattle.decimals.proofs.Written as W
use Rattle.decimals.proofs.put_digits.Given as goal

abbrev pub invariant-loop-w : goal.invariant-loop-w
invariant-loop-w l = W.Back l.initial.buf l.buf l.at l.i l.w l.v

abbrev pub decreases-loop-w : goal.decreases-loop-w
decreases-loop-w l = l.w
