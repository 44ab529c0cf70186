-- What a row and the loop over rows leave is what the definition gives at every enough number of turns.
use Rattle.std.proofs.Common.{arith}
use Rattle.fixup.proofs.Moves.{row_other, row_line, row-line-not, row-start, row_on, move-none, move-more}
use Rattle.fixup.proofs.types.Page.+follow_move_side.Goals as goal

pub follow-returns-then-self-j : goal.follow-returns-then-self-j
follow-returns-then-self-j t c = λ k h. row_other _ _ _ _ _ _ c.if-self-j.true k

pub follow-returns-then-i-v : goal.follow-returns-then-i-v
follow-returns-then-i-v t c = λ k h. row_line _ _ _ _ _ _ c.if-self-j.false c.if-self-j-ne-CORNER.true c.if-i-v.true _ c.move_line.ensures k

pub follow-returns-else-i-v : goal.follow-returns-else-i-v
follow-returns-else-i-v t c = λ k h. row-line-not _ _ _ _ _ _ c.if-self-j.false c.if-self-j-ne-CORNER.true c.if-i-v.false k

pub follow-returns-then-move_corner : goal.follow-returns-then-move_corner
follow-returns-then-move_corner t c =
    row_on _ _ _ _ _ _ c.if-self-j.false c.if-self-j-ne-CORNER.false _ c.move_corner.ensures.1 _ c.move_corner.ensures.0 c.if-move_corner.true _ c.args.self.now.joined c.requires.j_bound c.requires.side.from _ _ c.move_side.ensures c.move_side-then-move_corner.ensures

pub follow-returns-else-move_corner : goal.follow-returns-else-move_corner
follow-returns-else-move_corner t c =
    λ k h. row-start _ _ _ _ _ _ c.if-self-j.false c.if-self-j-ne-CORNER.false _ c.move_corner.ensures.1 _ c.move_corner.ensures.0 c.if-move_corner.false k

pub move_side-loop-j-init : goal.move_side-loop-j-init
move_side-loop-j-init t c = move-none _ _ _ _ _ _

pub move_side-loop-j-preserved : goal.move_side-loop-j-preserved
move_side-loop-j-preserved t c = let inside = c.requires.side.inside in move-more _ _ _ _ _ _ (omega arith) _ _ _ c.loop-j.invariant c.follow.ensures
