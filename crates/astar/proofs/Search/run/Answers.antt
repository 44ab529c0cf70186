use Rattle.std.proofs.Common.{refl, arith}
use Rattle.astar.proofs.Roads.{roads}
use Rattle.astar.proofs.Turn.{going-first, going-empty}
use Rattle.astar.proofs.Keeping.{kept_trans, turn-in, turn-low, turn-pred, turn-hit, turn-less, turn-on}
use Rattle.astar.proofs.Search.run.Goals as goal

pub outer-init : goal.outer-init
outer-init c =
    record { going = going-first _ _ (roads _ c.requires.ready) _ _ c.requires.inside _ c.begin.ensures.value; held = c.begin.ensures.held; kept = c.begin.ensures.kept; none = refl }

pub cell-requires : goal.cell-requires
cell-requires c =
    let kept = kept_trans c.outer.invariant.kept c.pop.ensures.kept in
    (turn-in c.requires.ready c.outer.invariant.going kept c.in-Some.ensures.value c.pop.ensures.state, omega arith)

pub returns-then-cell-ne0-clause-value : goal.returns-then-cell-ne0-clause-value
returns-then-cell-ne0-clause-value c =
    let kept = kept_trans c.outer.invariant.kept c.pop.ensures.kept in
    (turn-hit c.requires.ready c.outer.invariant.going kept c.in-Some.ensures.value c.pop.ensures.state c.pop.ensures.held.ends c.cell.ensures c.if-cell-ne0.true).0

pub returns-then-cell-ne0-clause-state : goal.returns-then-cell-ne0-clause-state
returns-then-cell-ne0-clause-state c =
    let kept = kept_trans c.outer.invariant.kept c.pop.ensures.kept in
    (turn-hit c.requires.ready c.outer.invariant.going kept c.in-Some.ensures.value c.pop.ensures.state c.pop.ensures.held.ends c.cell.ensures c.if-cell-ne0.true).1

pub expand-requires-clause-inside : goal.expand-requires-clause-inside
expand-requires-clause-inside c =
    let kept = kept_trans c.outer.invariant.kept c.pop.ensures.kept in
    turn-in c.requires.ready c.outer.invariant.going kept c.in-Some.ensures.value c.pop.ensures.state

pub expand-requires-clause-low : goal.expand-requires-clause-low
expand-requires-clause-low c =
    let kept = kept_trans c.outer.invariant.kept c.pop.ensures.kept in
    turn-low c.requires.ready c.outer.invariant.going kept c.in-Some.ensures.value c.pop.ensures.state

pub expand-requires-clause-pred_inside : goal.expand-requires-clause-pred_inside
expand-requires-clause-pred_inside c =
    let kept = kept_trans c.outer.invariant.kept c.pop.ensures.kept in
    turn-pred c.requires.ready c.outer.invariant.going kept c.in-Some.ensures.value c.pop.ensures.state

pub outer-smaller : goal.outer-smaller
outer-smaller c =
    let kept = kept_trans c.outer.invariant.kept c.pop.ensures.kept in
    turn-less c.requires.ready c.outer.invariant.going kept c.in-Some.ensures.value c.pop.ensures.state c.pop.ensures.held.ends c.cell.ensures c.if-cell-ne0.false c.expand.ensures.value

pub outer-preserved : goal.outer-preserved
outer-preserved c =
    let kept = kept_trans c.outer.invariant.kept c.pop.ensures.kept in
    record {
      going = turn-on c.requires.ready c.outer.invariant.going kept c.in-Some.ensures.value c.pop.ensures.state c.pop.ensures.held.ends c.cell.ensures c.if-cell-ne0.false c.expand.ensures.value;
      held = c.expand.ensures.held;
      kept = kept_trans kept c.expand.ensures.kept;
      none = c.outer.invariant.none;
    }

pub returns-in_default-clause-value : goal.returns-in_default-clause-value
returns-in_default-clause-value c =
    rw c.outer.invariant.none (going-empty _ _ (roads _ c.requires.ready) _ _ _ c.outer.invariant.going _ c.pop.ensures.state c.in_default.ensures.value).0

pub returns-in_default-clause-state : goal.returns-in_default-clause-state
returns-in_default-clause-state c = (going-empty _ _ (roads _ c.requires.ready) _ _ _ c.outer.invariant.going _ c.pop.ensures.state c.in_default.ensures.value).1
