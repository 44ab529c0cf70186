-- The cells that the boxes so far cover are marked.
use Rattle.fixed.specs.Up.{ups}
use Rattle.corridors.specs.Grid.{seen}
use Rattle.corridors.specs.Lent.{MarkedRow}
use Rattle.corridors.proofs.Grid.mark_row.Given as goal

abbrev pub invariant-loop-b : goal.invariant-loop-b
invariant-loop-b l = MarkedRow (seen l.self.along l.self.boxes.now) l.y l.b-index (ups l.self.xs.now) l.marks
