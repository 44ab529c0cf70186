use mathlib.Core.Path.{refl, sym, ◌∙◌}
use native.Mathlib.Omega.{arith}
use lib.Seq.{length-take-le}
use Rattle.book.proofs.Refusals.{refused}
use Rattle.page_line.proofs.Rows.{sorts-width, sorts-few}
use Rattle.page_line.proofs.Wide.{told-row, told-bad, wide_at}
use Rattle.page_text.proofs.Steps.{handed, line-bad, line-went, line_refused}
use Rattle.page_text.proofs.take_line.Goals as goal

pub returns-in_default : goal.returns-in_default
returns-in_default c =
    let both = line-bad _ _ (told-bad _ _ _ _ c.line_at.ensures c.in_default.is) in
    record { value = both.0; desk_after = both.1 }

pub slice_bounds-take_record-end : goal.slice_bounds-take_record-end
slice_bounds-take_record-end c =
    sym (length-take-le _ _ (omega (arith, c.width.ensures, sorts-width c.in-Some.kind, sorts-few c.in-Some.kind, c.line_at.auto.row)))

pub take_record-requires : goal.take_record-requires
take_record-requires c =
    record { ready = c.requires.ready; row_len = (told-row _ c.in-Some.kind _ _ _ _ c.line_at.ensures (wide_at _ _ _) c.in-Some.is c.width.ensures).0 }

pub returns-in_err-take_record : goal.returns-in_err-take_record
returns-in_err-take_record c =
    let row = told-row _ c.in-Some.kind _ _ _ _ c.line_at.ensures (wide_at _ _ _) c.in-Some.is c.width.ensures in
    let both = line_refused _ c.in-Some.kind _ _ _ _ row.1 c.in_err-take_record.ensures.value c.in_err-take_record.ensures.desk_after (refused _) in
    record { value = handed _ _ c.from_residual.ensures.1 ∙ both.0; desk_after = both.1 }

pub returns : goal.returns
returns c =
    let row = told-row _ c.in-Some.kind _ _ _ _ c.line_at.ensures (wide_at _ _ _) c.in-Some.is c.width.ensures in
    let both = line-went _ c.in-Some.kind _ _ _ _ row.1 c.in_ok-take_record.ensures.value c.in_ok-take_record.ensures.desk_after refl in
    record { value = both.0; desk_after = both.1 }
