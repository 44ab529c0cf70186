-- A move that is not tried or not better leaves the state; a better one replaces the target's score, predecessor and queue entry.
use Rattle.astar.proofs.Laws.{move-none, move-not, move-to}
use Rattle.astar.proofs.Search.relax.Goals as goal

pub returns-then-score-cell-clause-value : goal.returns-then-score-cell-clause-value
returns-then-score-cell-clause-value c =
    let lower = rw c.cell-in-Some.ensures at c.if-score-cell.true in
    move-to _ c.requires.ready _ _ _ c.requires.inside.0 c.requires.inside.1 _ _ _ _ _ c.in-Some.ensures (rw (c.cell.ensures, c.distance-length.ensures.0, c.turn_cost.ensures)) _ c.improve.ensures.value lower

pub returns-else-score-cell-clause-value : goal.returns-else-score-cell-clause-value
returns-else-score-cell-clause-value c =
    let higher = rw c.cell-in-Some.ensures at c.if-score-cell.false in
    move-not _ c.requires.ready _ _ _ c.requires.inside.0 c.requires.inside.1 _ _ _ _ _ c.in-Some.ensures (rw (c.cell.ensures, c.distance-length.ensures.0, c.turn_cost.ensures)) higher

pub returns-in_default-clause-value : goal.returns-in_default-clause-value
returns-in_default-clause-value c = move-none _ c.requires.ready _ _ _ c.requires.inside.0 c.requires.inside.1 _ _ _ c.in_default.ensures
