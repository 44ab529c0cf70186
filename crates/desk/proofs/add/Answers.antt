-- `desk::add` meets its contract. The tests in their order; the block now stays the same when an entry is laid.
use mathlib.Core.Path.{refl}
use native.Mathlib.Omega.{arith}
use Rattle.rows.specs.Rows.{part}
use Rattle.book.specs.Book.{take_number_in}
use Rattle.block.specs.Block.{with_row}
use Rattle.desk.specs.Desk.{block, book_of}
use Rattle.desk.proofs.Whole
use Rattle.desk.proofs.Words
use Rattle.desk.proofs.add.Goals as goal

pub returns-in_err-validate : goal.returns-in_err-validate
returns-in_err-validate c =
    let both = Whole.turned _ _ c.from_residual.ensures.1 c.in_err-validate.ensures _ _ _ in record { value = both.0; desk_after = both.1 }

pub slice_bounds-check_add-end : goal.slice_bounds-check_add-end
slice_bounds-check_add-end c = omega (arith, (Whole.sound-ok c.in_ok-validate.ensures).long)

pub check_add-requires-clause-counted : goal.check_add-requires-clause-counted
unfolding block part
check_add-requires-clause-counted c = Whole.counted _ (Whole.sound-ok c.in_ok-validate.ensures)

pub returns-in_err-check_add : goal.returns-in_err-check_add
unfolding book_of block part take_number_in
returns-in_err-check_add c =
    let both = Whole.turned-late _ _ c.from_residual-in_err-check_add.ensures.1 c.in_ok-validate.ensures _ _ _ c.in_err-check_add.ensures in record { value = both.0; desk_after = both.1 }

pub lay_added-requires : goal.lay_added-requires
lay_added-requires c = (Whole.sound-ok c.in_ok-validate.ensures).long

pub slice_bounds-put_record-end : goal.slice_bounds-put_record-end
slice_bounds-put_record-end c = omega (arith, (Whole.sound-ok c.in_ok-validate.ensures).long, c.lay_added.auto.desk)

pub put_record-requires : goal.put_record-requires
unfolding block part
put_record-requires c =
    let s = Whole.sound-ok c.in_ok-validate.ensures in
    let e = Words.long-out c.args.kind in record {
      counted = Whole.counted-laid _ s _ _ e c.lay_added.ensures;
      row_len = (c.requires, Whole.room-laid _ s _ _ e c.lay_added.ensures c.args.kind _ _ c.in_ok-check_add.ensures refl);
    }

pub returns : goal.returns
unfolding book_of block part take_number_in
returns c =
    let s = Whole.sound-ok c.in_ok-validate.ensures in
    let k = c.args.kind in
    let both = Whole.says-0 _ 0 c.in_ok-validate.ensures _ _ _ refl _ c.in_ok-check_add.ensures refl _
    (Whole.changed _ s _ _ (Words.long-out k) c.lay_added.ensures (with_row k c.args.row.now) _ c.put_record.ensures) in
    record { value = both.0; desk_after = both.1 }
