-- All boxes but the ignored one tell what all would.
use Rattle.std.proofs.Common.{true, false}
use Rattle.sightline.proofs.Bounds.{near_none, near-past, near-bounds}
use Rattle.sightline.proofs.Line.nearest.Goals as goal
use Rattle.sightline.proofs.Line.nearest.Goals.{then-ahead, else-ahead}

pub nearest_of-before-requires-clause-before : goal.nearest_of-before-requires-clause-before
nearest_of-before-requires-clause-before c =
    elim c.if-ahead.branch [ then-ahead w ↦ rw (w.none-is, w.if-ahead.true) (near_none _ _ true) | else-ahead w ↦ rw (w.none-is, w.if-ahead.false) (near_none _ _ false) ]

pub nearest_of-nearest-requires-clause-before : goal.nearest_of-nearest-requires-clause-before
nearest_of-nearest-requires-clause-before c = near-past _ c.min-ignored.ensures c.min-behind.ensures c.nearest_of-before.ensures

pub returns-then-nearest : goal.returns-then-nearest
returns-then-nearest c = rw c.if-nearest.true at (near-bounds _ _ _ _ _ c.nearest_of-nearest.ensures)

pub returns-else-nearest : goal.returns-else-nearest
returns-else-nearest c = rw c.if-nearest.false at (near-bounds _ _ _ _ _ c.nearest_of-nearest.ensures)
