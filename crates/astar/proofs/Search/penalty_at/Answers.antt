use Rattle.std.proofs.Common.{◌∙◌, ◌<◌, arith}
use Rattle.astar.proofs.Roads.{run-lt}
use Rattle.astar.proofs.Laws.{penalty-run, penalty-start}
use Rattle.astar.proofs.Search.penalty_at.Goals as goal

pub corner_penalty-requires-in-Some : goal.corner_penalty-requires-in-Some
corner_penalty-requires-in-Some c =
    let h = rw c.in-Some.is at c.requires.arrived in
    let o : c.opposite.result < 4 = rw c.opposite.ensures (omega (arith, h.1)) in
    rw c.length_in_direction.ensures (run-lt _ c.requires.ready _ _ o _ _ c.requires.inside)

pub returns-in-None : goal.returns-in-None
returns-in-None c = c.corner_penalty.ensures ∙ penalty-start _ _ _ (rw c.in-None.is at c.requires.arrived)

pub returns-in-Some : goal.returns-in-Some
returns-in-Some c = c.corner_penalty-in-Some.ensures ∙ penalty-run _ _ _ _ _ _ (rw c.in-Some.is at c.requires.arrived) c.opposite.ensures c.length_in_direction.ensures
