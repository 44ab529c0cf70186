-- `desk::ok_desk` meets its contract. The depth, the lists now, and on a copy of their block the entries.
use mathlib.Core.Path.{refl}
use Rattle.desk.specs.Desk.{block}
use Rattle.rows.specs.Rows.{part}
use Rattle.desk.proofs.Valid
use Rattle.desk.proofs.ok_desk.Goals as goal

pub returns-then-depth : goal.returns-then-depth
returns-then-depth c = Valid.deep _ _ refl c.if-depth.true

pub returns-then-not-ok_block : goal.returns-then-not-ok_block
unfolding block part
returns-then-not-ok_block c = Valid.block-fails _ _ refl c.if-depth.false _ c.ok_block.ensures c.if-not-ok_block.true

pub returns : goal.returns
unfolding block part
returns c =
    Valid.entries-say c.args.desk.now _ refl c.if-depth.false _ c.ok_block.ensures c.if-not-ok_block.false _ _ _ refl refl
    c.copy_from_slice.ensures.after _ c.ok_entries.ensures
