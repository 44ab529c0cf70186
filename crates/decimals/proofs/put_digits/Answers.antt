use Prim.Native.Nat.{ℕ, ◌+◌}
use mathlib.Core.Path.{refl, ap}
use native.Mathlib.Omega.{arith}
use Rattle.decimals.proofs.Written as W
use Rattle.decimals.proofs.put_digits.Goals as goal

pub loop-w-init : goal.loop-w-init
loop-w-init c = record { place = ap (λ (n : ℕ). c.args.at + n) c.width.ensures; most = omega (arith, c.width.ensures); fits = omega arith; long = refl; whole = refl }

pub overflow_sub-i : goal.overflow_sub-i
overflow_sub-i c = omega (arith, W.width-on c.loop-w.w (omega arith))

pub bounds-buf-i : goal.bounds-buf-i
bounds-buf-i c = omega (arith, W.width-on c.loop-w.w (omega arith))

pub loop-w-preserved : goal.loop-w-preserved
loop-w-preserved c = W.back_on _ _ _ _ _ _ c.loop-w.invariant (omega arith)

pub bounds-buf-at : goal.bounds-buf-at
bounds-buf-at c = omega (arith, W.width-end c.loop-w.w (omega arith))

pub returns : goal.returns
returns c = W.back_end _ _ _ _ _ _ _ c.loop-w.invariant (omega arith) (omega (arith, c.width.ensures))
