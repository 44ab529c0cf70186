use Rattle.std.proofs.Common.{◌≡◌, ◌<◌}
use Rattle.wire.specs.Ends.{nearest_end}
use Rattle.wire.specs.Lent.{words}
use Rattle.wire.proofs.nearest_end.Given as goal

abbrev pub invariant-loop-i : goal.invariant-loop-i
invariant-loop-i l = record {
  least : l.best ≡ nearest_end (words l.ends) l.at.x l.at.y l.i;
  below : l.best < l.m;
}
