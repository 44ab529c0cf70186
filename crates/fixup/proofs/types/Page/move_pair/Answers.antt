-- The pair's coordinate by the axis, and then its junctions: the first vertex's and then the second's.
use Rattle.std.proofs.Common.{arith}
use Rattle.fixed.proofs.Lists.{length-ups}
use Rattle.fixup.proofs.Moves.{pair-done}
use Rattle.fixup.proofs.types.Page.move_pair.Goals as goal
use Rattle.fixup.proofs.types.Page.move_pair.Goals.{then-vertical, else-vertical}

pub returns : goal.returns
returns c =
    let n = length-ups c.if-vertical.x in
    pair-done _ _ _ _ _ _ _ _ _ _ _ (omega arith) (elim c.if-vertical.branch [ then-vertical w ↦ rw (w.x-is, w.y-is, w.put_pair.ensures, w.if-vertical.true) | else-vertical w ↦ rw (w.x-is, w.y-is, w.put_pair-else-vertical.ensures, w.if-vertical.false) ]) c.move_side.ensures c.move_side-2.ensures
