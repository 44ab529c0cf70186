-- `desk::take_record` meets its contract. The test comes first; the block now is lent as a part.
use mathlib.Core.Path.{refl, sym, ◌∙◌}
use Rattle.rows.specs.Rows.{part}
use Rattle.block.proofs.Blocks
use Rattle.desk.specs.Desk.{block, at0}
use Rattle.book.proofs.Refusals.{passed, refused}
use Rattle.desk.proofs.Whole
use Rattle.desk.proofs.take_record.Goals as goal

pub check_add-requires-clause-counted : goal.check_add-requires-clause-counted
unfolding block part
check_add-requires-clause-counted c = c.requires.ready.counted

pub returns-in_err-check_add : goal.returns-in_err-check_add
unfolding block part
returns-in_err-check_add c =
    let q = passed _ _ c.from_residual.ensures.1 in
    record { value = q ∙ c.in_err-check_add.ensures; desk_after = Whole.kept _ _ _ (λ z. refused _ (sym q ∙ z)) }

pub put_record-requires : goal.put_record-requires
unfolding block part
put_record-requires c = record { counted = c.requires.ready.counted; row_len = (c.requires.row_len, Blocks.take-room c.args.kind _ _ _ c.in_ok-check_add.ensures refl) }

pub returns : goal.returns
unfolding block part at0
returns c = record { value = c.in_ok-check_add.ensures; desk_after = Whole.put_back c.args.kind c.args.row.now c.args.desk.now _ c.put_record.ensures }
