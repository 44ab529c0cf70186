-- All before `lo` lie below v, and none from `hi` on.
use Rattle.std.proofs.Common.{ℕ, ◌-◌, ◌<◌, ◌≤◌, length, get_or}
use Rattle.fixed.specs.Up.{ups}
use Rattle.fixed.proofs.rank.Given as goal

abbrev pub invariant-loop-lo : goal.invariant-loop-lo
invariant-loop-lo l = record {
  meet : l.lo ≤ l.hi;
  bound : l.hi ≤ length l.xs;
  below : (k : ℕ) → k < l.lo → get_or (ups l.xs) k 0 < l.v;
  onward : (k : ℕ) → l.hi ≤ k → k < length l.xs → l.v ≤ get_or (ups l.xs) k 0;
}

abbrev pub decreases-loop-lo : goal.decreases-loop-lo
decreases-loop-lo l = l.hi - l.lo
