-- `desk::retire` meets its contract. The tests in their order; the block now stays the same when an entry is laid.
use mathlib.Core.Path.{refl}
use native.Mathlib.Omega.{arith}
use Rattle.rows.specs.Rows.{part}
use Rattle.book.specs.Book.{leave_number}
use Rattle.block.specs.Block.{without_row}
use Rattle.desk.specs.Desk.{block, book_of}
use Rattle.desk.proofs.Whole
use Rattle.desk.proofs.retire.Goals as goal

pub returns-in_err-validate : goal.returns-in_err-validate
returns-in_err-validate c =
    let both = Whole.turned _ _ c.from_residual.ensures.1 c.in_err-validate.ensures _ _ _ in record { value = both.0; desk_after = both.1 }

pub slice_bounds-check_retire-end : goal.slice_bounds-check_retire-end
slice_bounds-check_retire-end c = omega (arith, (Whole.sound-ok c.in_ok-validate.ensures).long)

pub check_retire-requires : goal.check_retire-requires
unfolding block part
check_retire-requires c = Whole.counted _ (Whole.sound-ok c.in_ok-validate.ensures)

pub returns-in_err-check_retire : goal.returns-in_err-check_retire
unfolding book_of block part leave_number
returns-in_err-check_retire c =
    let both = Whole.turned-late _ _ c.from_residual-in_err-check_retire.ensures.1 c.in_ok-validate.ensures _ _ _ c.in_err-check_retire.ensures in record { value = both.0; desk_after = both.1 }

pub slice_bounds-spot-end : goal.slice_bounds-spot-end
slice_bounds-spot-end c = omega (arith, (Whole.sound-ok c.in_ok-validate.ensures).long)

pub spot-i-requires : goal.spot-i-requires
unfolding block part
spot-i-requires c = Whole.counted _ (Whole.sound-ok c.in_ok-validate.ensures)

pub lay_retired-requires : goal.lay_retired-requires
unfolding block part
lay_retired-requires c =
    let s = Whole.sound-ok c.in_ok-validate.ensures in
    record { in_bounds = s.long; counted = Whole.counted _ s; i_bound = Whole.spot-here _ s c.args.kind _ _ _ c.in_ok-check_retire.ensures refl c.spot-i.ensures }

pub slice_bounds-cut_record-end : goal.slice_bounds-cut_record-end
slice_bounds-cut_record-end c = omega (arith, (Whole.sound-ok c.in_ok-validate.ensures).long, c.lay_retired.auto.desk)

pub cut_record-requires : goal.cut_record-requires
unfolding block part
cut_record-requires c =
    let s = Whole.sound-ok c.in_ok-validate.ensures in
    let i = Whole.spot-here _ s c.args.kind _ _ _ c.in_ok-check_retire.ensures refl c.spot-i.ensures in
    let e = Whole.long-retired _ s c.args.kind _ i in
    record { counted = Whole.counted-laid _ s _ _ e c.lay_retired.ensures; i_bound = Whole.spot-laid _ s _ _ e c.lay_retired.ensures c.args.kind _ i }

pub returns : goal.returns
unfolding book_of block part leave_number
returns c =
    let s = Whole.sound-ok c.in_ok-validate.ensures in
    let k = c.args.kind in
    let e = Whole.long-retired _ s k _ (Whole.spot-here _ s k _ _ _ c.in_ok-check_retire.ensures refl c.spot-i.ensures) in
    let both = Whole.says-0 _ 0 c.in_ok-validate.ensures _ _ _ refl _ c.in_ok-check_retire.ensures refl _
    (Whole.retired-at _ k _ _ _ c.spot-i.ensures
    (Whole.changed _ s _ _ e c.lay_retired.ensures (without_row k c.spot-i.result) _ c.cut_record.ensures)) in
    record { value = both.0; desk_after = both.1 }
