use Prim.Native.Nat.{◌+◌, ◌≤◌}
use mathlib.Core.Path.{◌≡◌}
use Rattle.decimals.specs.Write.{digits}
use lib.ListN.{length}
use Rattle.decimals.proofs.width.Given as goal

abbrev pub invariant-loop-w : goal.invariant-loop-w
invariant-loop-w l = (l.n + l.w ≤ l.v + 1) × (l.n + length (digits l.w) ≡ 1 + length (digits l.v))

abbrev pub decreases-loop-w : goal.decreases-loop-w
decreases-loop-w l = l.w
