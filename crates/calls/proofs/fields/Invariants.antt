use Rattle.std.proofs.Common.{◌≤◌, length}
use Rattle.calls.proofs.fields.Given as goal

abbrev pub invariant-loop-word : goal.invariant-loop-word
invariant-loop-word l = l.next ≤ length l.list
