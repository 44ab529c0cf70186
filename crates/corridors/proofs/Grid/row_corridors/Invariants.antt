-- What is left to do from the run j on gives what the whole row gives; the row itself is not changed by its own runs.
use Rattle.std.proofs.Common.{◌≡◌, [], length, get_or}
use Rattle.fixed.specs.Up.{ups}
use Rattle.corridors.specs.Merge.{corridor}
use Rattle.corridors.specs.Lent.{table}
use Rattle.corridors.proofs.Laying.{Going}
use Rattle.corridors.proofs.Grid.row_corridors.Given as goal

abbrev pub invariant-loop-j : goal.invariant-loop-j
invariant-loop-j l = Going l.self.along (corridor (ups l.self.xs.now) (ups l.self.ys.now) (length l.initial.rows) l.i) l.j-end l.begin l.initial.rows l.rows l.initial.anchors l.anchors l.made l.j × (get_or (table l.rows) l.i [] ≡ get_or (table l.initial.rows) l.i [])
