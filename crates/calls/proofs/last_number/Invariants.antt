use Rattle.std.proofs.Common.{◌≤◌, length}
use Rattle.calls.proofs.last_number.Given as goal

abbrev pub invariant-loop : goal.invariant-loop
invariant-loop l = l.next ≤ length l.list
