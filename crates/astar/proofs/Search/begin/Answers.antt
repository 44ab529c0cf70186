use Rattle.astar.proofs.Laws.{begun}
use Rattle.astar.proofs.Search.begin.Goals as goal

pub returns-clause-value : goal.returns-clause-value
returns-clause-value c =
    let same = c.put.ensures.kept.same_graph in
    let queued = rw same at c.put-2.ensures in
    rw same (begun _ _ _ _ c.put.ensures.value c.put.ensures.only _ queued.0 queued.1 c.requires.unreached)
