-- The row and the loop over rows, by one measure: twice the vertices left. Each says of every enough number of turns k what the definition gives.
use Rattle.std.proofs.Common.{◌-◌, ◌+◌, ◌*◌}
use Rattle.fixed.specs.Up.{ups}
use Rattle.fixup.specs.Moves.{places}
use Rattle.fixup.proofs.Moves.{Moved}
use Rattle.fixup.proofs.types.Page.+follow_move_side.Given as goal

abbrev pub decreases-follow : goal.decreases-follow
decreases-follow l = 2 * (l.self.now.vertices - l.i)

abbrev pub decreases-move_side : goal.decreases-move_side
decreases-move_side l = 2 * (l.self.now.vertices - l.i) + 1

abbrev pub invariant-move_side-loop-j : goal.invariant-move_side-loop-j
invariant-move_side-loop-j l = Moved l.self.vertices l.self.kinds.now l.self.junctions.now l.i l.v (places (ups l.initial.x) (ups l.initial.y)) l.j (places (ups l.x) (ups l.y))
