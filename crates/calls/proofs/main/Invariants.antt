use Rattle.std.proofs.Common.{◌≤◌, length}
use Rattle.calls.proofs.main.Given as goal

abbrev pub invariant-loop : goal.invariant-loop
invariant-loop l = record { in_list : l.at ≤ length l.list; calls_few : l.calls ≤ l.counter; wrong_few : l.wrong ≤ l.counter }
