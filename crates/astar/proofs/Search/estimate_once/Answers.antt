use Rattle.astar.proofs.Laws.{kept-known, nearest-le}
use Rattle.astar.proofs.Search.estimate_once.Goals as goal

pub returns-then-known-clause-value : goal.returns-then-known-clause-value
returns-then-known-clause-value c =
    let e = kept-known _ _ _ _ _ c.requires.estimated _ c.requires.inside _ c.cell-known.ensures c.if-known.true in
    (e, rw e (nearest-le _ _ _ _))
