-- One box more, which may be the ignored one.
use Rattle.std.proofs.Common.{refl, true, false, arith}
use Rattle.sightline.proofs.Bounds.{near-at, near_none, near-asked, near-bounds, ignored-is}
use Rattle.sightline.proofs.Columns.nearest.Goals as goal
use Rattle.sightline.proofs.Columns.nearest.Goals.{then-ahead, else-ahead}

pub loop-i-init : goal.loop-i-init
loop-i-init c =
    elim c.if-ahead.branch [ then-ahead w ↦ rw (w.edge-is, w.if-ahead.true) (near_none _ _ true) | else-ahead w ↦ rw (w.edge-is, w.if-ahead.false) (near_none _ _ false) ]

pub loop-i-preserved : goal.loop-i-preserved
loop-i-preserved c =
    rw (c.nearer-edge.ensures, c.in_view.ensures)
    (near-asked _ _ _ _ _ _ (rw (c.bears.ensures, c.min-ignored.ensures, ignored-is _ _ _ c.loop-i-test.true) refl) c.least-low.ensures c.greatest-high.ensures c.args.ahead _ _ (omega arith) (omega arith) c.loop-i.invariant)

pub returns-then-found : goal.returns-then-found
returns-then-found c = rw c.if-found.true at (near-bounds _ _ _ _ _ (near-at (omega arith) c.loop-i.invariant))

pub returns-else-found : goal.returns-else-found
returns-else-found c = rw c.if-found.false at (near-bounds _ _ _ _ _ (near-at (omega arith) c.loop-i.invariant))
