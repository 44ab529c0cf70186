-- What is left to do from the row i on gives what all rows give.
use Rattle.std.proofs.Common.{length}
use Rattle.fixed.specs.Up.{ups}
use Rattle.corridors.specs.Merge.{row_corridors}
use Rattle.corridors.proofs.Laying.{Going}
use Rattle.corridors.proofs.Grid.merged.Given as goal

abbrev pub invariant-loop-i : goal.invariant-loop-i
invariant-loop-i l = Going l.self.along (row_corridors (ups l.self.xs.now) (ups l.self.ys.now) (length l.initial.rows)) (length l.initial.rows) l.begin l.initial.rows l.rows l.initial.anchors l.anchors l.made l.i
