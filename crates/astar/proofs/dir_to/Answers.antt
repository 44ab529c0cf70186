use Rattle.std.proofs.Common.{sym, ◌∙◌, arith}
use Rattle.astar.proofs.Laws.{toward-at, toward-none}
use Rattle.astar.proofs.dir_to.Goals as goal

pub returns-then-link-w : goal.returns-then-link-w
returns-then-link-w c = (toward-at _ _ _ _ c.loop-d-test.true c.loop-d.invariant (sym (c.link.ensures.value c.requires) ∙ c.if-link-w.true), c.loop-d-test.true)

pub returns : goal.returns
returns c = toward-none _ _ _ (λ k h. c.loop-d.invariant k (omega arith))
