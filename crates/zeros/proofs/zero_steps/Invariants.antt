-- From `from` to before i all is zero, and before that as it was.
use Rattle.std.proofs.Common.{◌≡◌, ◌<◌, ◌≤◌, ℕ, length, get_or}
use Rattle.fixed.specs.Up.{BIAS, ups}
use Rattle.zeros.proofs.zero_steps.Given as goal

abbrev pub invariant-loop-i : goal.invariant-loop-i
invariant-loop-i l = record {
  on : l.from ≤ l.i;
  long : length l.list ≡ length l.initial.list;
  low : (j : ℕ) → j < l.from → get_or (ups l.list) j 0 ≡ get_or (ups l.initial.list) j 0;
  high : (j : ℕ) → l.from ≤ j → j < l.i → get_or (ups l.list) j 0 ≡ BIAS;
}
