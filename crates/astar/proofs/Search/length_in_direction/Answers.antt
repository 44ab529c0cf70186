use Rattle.std.proofs.Common.{sym, ◌∙◌, rules}
use Rattle.astar.proofs.Laws.{walk_start, walk_none, walk_turn, walk_step}
use Rattle.astar.proofs.Search.length_in_direction.Goals as goal

pub loop-p-init : goal.loop-p-init
loop-p-init c = walk_start _ c.requires.ready _ _ _ c.requires.inside.0

pub loop-p-preserved : goal.loop-p-preserved
loop-p-preserved c =
    walk_step _ c.requires.ready _ _ _ _ _ c.loop-p.invariant _ c.in-Some.ensures c.requires.inside.1 (sym (c.link.ensures.value (search rules)) ∙ c.if-link-p.false) _ c.distance-len.ensures.0

pub returns-then-link-p : goal.returns-then-link-p
returns-then-link-p c = walk_turn _ c.requires.ready _ _ _ _ _ c.loop-p.invariant _ c.in-Some.ensures (λ z. c.if-link-p.true (c.link.ensures.value (search rules) ∙ z))

pub returns-in_default : goal.returns-in_default
returns-in_default c = walk_none _ c.requires.ready _ _ _ _ _ c.loop-p.invariant c.in_default.ensures
