-- The sizes first.
use Rattle.std.proofs.Common.{rules}
use Rattle.desk_layout.proofs.Call.{sizes-1, sizes-number, sizes-lists}
use Rattle.desk_layout.proofs.layout.Goals as goal

pub returns-then-not-is_lent : goal.returns-then-not-is_lent
returns-then-not-is_lent c =
    let p = sizes-1 c.args.desk.now c.args.choice c.args.nets.now c.args.x.now c.args.y.now c.args.kinds.now c.args.joins.now _ c.is_lent.ensures c.if-not-is_lent.true in
    record { value = p.0; lists_after = p.1 }

pub returns-clause-value : goal.returns-clause-value
returns-clause-value c = sizes-number _ _ _ _ _ _ _ _ c.is_lent.ensures c.if-not-is_lent.false _ c.layout_lent.ensures.value

pub returns-clause-lists_after : goal.returns-clause-lists_after
returns-clause-lists_after c = sizes-lists _ _ _ _ _ _ _ _ c.is_lent.ensures c.if-not-is_lent.false _ c.layout_lent.ensures.value _ (search rules)
