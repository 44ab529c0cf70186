use Rattle.std.proofs.Common.{◌≡◌, ◌≤◌, drop}
use Rattle.decimals.specs.Decimal.{BASE, summed}
use Rattle.decimals.proofs.sum_digits.Given as goal

abbrev pub invariant-loop-b : goal.invariant-loop-b
invariant-loop-b l = (l.v ≤ BASE) × (summed l.v (drop l.b-index l.f) ≡ summed 0 l.f)
