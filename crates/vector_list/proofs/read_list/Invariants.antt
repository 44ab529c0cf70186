use Rattle.std.proofs.Common.{◌≤◌, length}
use Rattle.vector_list.proofs.read_list.Given as goal

abbrev pub invariant-loop : goal.invariant-loop
invariant-loop g l = l.n ≤ length l.room
