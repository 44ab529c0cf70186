use Rattle.std.proofs.Common.{sym, ◌∙◌, arith}
use Rattle.scan.specs.Scan.{toward}
use Rattle.scan.specs.Walk.{scan}
use Rattle.scan.proofs.Reaches.{side-x, side-y, reach-fits}
use Rattle.scan.proofs.Builder.toward.Goals.{in-X, in-Y}
use Rattle.scan.proofs.Builder.toward.Goals as goal

pub returns-then-not-has-clause-built : goal.returns-then-not-has-clause-built
unfolding toward
returns-then-not-has-clause-built c = rw (sym c.has.ensures ∙ c.if-not-has.true)

pub walk-requires-clause-from_in : goal.walk-requires-clause-from_in
walk-requires-clause-from_in c =
    elim c.match-axis.branch [
      | in-X w ↦ rw (c.reach-m.ensures, w.at-is) (omega arith, reach-fits _ _ _ _ _ (omega arith))
      | in-Y w ↦ rw (c.reach-m.ensures, w.at-is) (omega arith, reach-fits _ _ _ _ _ (omega arith))
    ]

pub returns-clause-built : goal.returns-clause-built
unfolding toward scan
returns-clause-built c =
    elim c.match-axis.branch [
      | in-X w ↦ rw (sym c.has.ensures ∙ c.if-not-has.false, side-x _ w.in-X.ensures) (rw (c.reach-m.ensures, w.at-is, ← w.in-X.ensures) at c.walk.ensures.built)
      | in-Y w ↦ rw (sym c.has.ensures ∙ c.if-not-has.false, side-y _ w.in-Y.ensures) (rw (c.reach-m.ensures, w.at-is, ← w.in-Y.ensures) at c.walk.ensures.built)
    ]
