use Rattle.std.proofs.Common.{◌≡◌, arith}
use Rattle.prune.proofs.Lent.{back-none, back-aimed, back-left, back-all}
use Rattle.prune.proofs.backs.Goals.{in-Some, in_default}
use Rattle.prune.proofs.backs.Goals as goal

pub loop-d-init : goal.loop-d-init
loop-d-init c = back-none _ _

pub loop-d-preserved : goal.loop-d-preserved
loop-d-preserved c =
    elim c.match-neighbour.branch [
      | in-Some w ↦ rw w.graph-is (back-aimed c.loop-d.invariant _ _ w.in-Some.ensures (rw w.opposite.ensures at w.put_link.ensures.value))
      | in_default w ↦ rw w.graph-is (back-left c.loop-d.invariant w.in_default.ensures)
    ]

pub returns : goal.returns
returns c = back-all (rw (let e : c.loop-d.d ≡ 4 = omega arith in e) at c.loop-d.invariant)
