-- The edge of the boxes that were passed is the nearest of them.
use Rattle.sightline.specs.Near.{Near}
use Rattle.sightline.specs.Columns.{line_in}
use Rattle.sightline.proofs.Columns.nearest.Given as goal

abbrev pub invariant-loop-i : goal.invariant-loop-i
invariant-loop-i l = Near (line_in l.self l.along l.at l.ignore) l.anchor l.ahead l.found l.edge l.i
