-- What the boxes that were passed block.
use Rattle.std.proofs.Common.{◌≡◌}
use Rattle.sightline.specs.Count.{any}
use Rattle.sightline.specs.Sight.{box_stops}
use Rattle.sightline.specs.Lent.{line}
use Rattle.sightline.proofs.Line.none_stops.Given as goal

abbrev pub invariant-loop-i : goal.invariant-loop-i
invariant-loop-i l = l.blocked ≡ any (box_stops (line l.self.boxes.now l.self.along l.self.at l.self.ignore) l.a l.b) l.i
