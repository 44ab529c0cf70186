-- The edge of the boxes that were passed is the nearest of them.
use Rattle.std.proofs.Common.{◌+◌}
use Rattle.sightline.specs.Near.{Near}
use Rattle.sightline.specs.Lent.{line}
use Rattle.sightline.proofs.Line.nearest_of.Given as goal

abbrev pub invariant-loop-x : goal.invariant-loop-x
invariant-loop-x l = Near (line l.self.boxes.now l.self.along l.self.at l.self.ignore) l.anchor l.ahead l.found l.edge (l.from + l.x-index)
