-- What is left to do from the row i on gives what all rows give.
use Rattle.std.proofs.Common.{arith}
use Rattle.corridors.proofs.Laying.{going-on}
use Rattle.corridors.proofs.Grid.merged.Goals as goal

pub loop-i-preserved : goal.loop-i-preserved
loop-i-preserved c =
    going-on c.loop-i.invariant (omega arith) c.in_ok-made.made c.row_corridors.new.anchors c.row_corridors.new.rows (rw c.loop-i.auto.rows at c.in_ok-made.ensures)
