use Rattle.std.proofs.Common.{rules, arith}
use Rattle.columns.proofs.Laws.{column-long}
use Rattle.astar.proofs.Roads.{pen-high}
use Rattle.astar.proofs.Laws.{arrival-le, way-is}
use Rattle.astar.proofs.State.{relax_to-zero, relax_to-next, expand-done, low-still}
use Rattle.astar.proofs.Search.expand.Goals as goal

pub loop-dir-init : goal.loop-dir-init
loop-dir-init c = record { value = relax_to-zero _ _ _ _ _ _; held = c.requires.held; kept = search rules }

pub relax-requires-clause-low : goal.relax-requires-clause-low
relax-requires-clause-low c =
    let same = c.loop-dir.invariant.kept.same_graph in
    let so-far = rw same at c.loop-dir.invariant.value in
    rw same (
      pen-high _ c.requires.ready _ _ _ c.requires.inside c.penalty_at-penalty.ensures,
      low-still _ _ _ _ _ _ _ _ _ c.requires.ready c.requires.inside (column-long _ _ _) (column-long _ _ _) (column-long _ _ _) (omega arith) so-far c.requires.low,
    )

pub loop-dir-preserved : goal.loop-dir-preserved
loop-dir-preserved c =
    let same = c.loop-dir.invariant.kept.same_graph in
    let so-far = rw same at c.loop-dir.invariant.value in
    let moved = rw (same, c.loop-dir.invariant.kept.same_ends) at c.relax.ensures.value in
    record { value = relax_to-next _ _ _ _ _ _ _ _ _ so-far moved; held = c.relax.ensures.held; kept = search rules }

pub returns-clause-value : goal.returns-clause-value
returns-clause-value c = expand-done _ _ _ _ _ _ _ _ c.loop-dir.invariant.value (omega arith) (way-is _ _ c.arrival-arrived.ensures (arrival-le _ _ _)) c.penalty_at-penalty.ensures
