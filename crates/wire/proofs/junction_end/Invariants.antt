use Rattle.std.proofs.Common.{◌≡◌, ◌-◌}
use Rattle.wire.specs.Ends.{first_from}
use Rattle.wire.specs.Lent.{words}
use Rattle.wire.proofs.junction_end.Given as goal

abbrev pub invariant-loop-i : goal.invariant-loop-i
invariant-loop-i l = first_from (l.last - l.i) (words l.ends) l.at.x l.at.y l.i ≡ first_from l.last (words l.ends) l.at.x l.at.y 0
