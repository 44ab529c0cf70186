use Rattle.std.proofs.Common.{◌+◌, refl, sym, ap, ◌∙◌, arith}
use lib.Seq.{length-take-le}
use Rattle.std.proofs.lemmas.List.{take_rest}
use Rattle.decimals.specs.Bytes.{TAB, split}
use Rattle.decimals.specs.Write.{written}
use Rattle.page_line.specs.Fields.{row_of}
use Rattle.page_line.specs.Records.{sorts}
use Rattle.decimals.proofs.Split.{find_inside}
use Rattle.page_line.proofs.Shapes as S
use Rattle.page_line.proofs.read_line.Goals as goal

pub returns-then-e-body : goal.returns-then-e-body
returns-then-e-body c = S.told_none _ _ (S.line-bare _ _ c.find-e.ensures c.if-e-body.true)

pub slice_bounds-kind_of-end : goal.slice_bounds-kind_of-end
slice_bounds-kind_of-end c = sym (length-take-le _ _ (find_inside _ _ _ _ c.find-e.ensures (omega arith)))

pub returns-in_err-kind : goal.returns-in_err-kind
returns-in_err-kind c = rw c.from_residual.ensures (S.told_none _ _ (S.line-unknown _ _ c.find-e.ensures c.if-e-body.false _ refl (sym c.in_err-kind.was ∙ c.kind_of.ensures)))

pub overflow_add-e : goal.overflow_add-e
overflow_add-e c = omega (arith, find_inside _ _ _ _ c.find-e.ensures (omega arith))

pub slice_bounds-read_fields-count : goal.slice_bounds-read_fields-count
slice_bounds-read_fields-count c = omega (arith, find_inside _ _ _ _ c.find-e.ensures (omega arith))

pub slice_bounds-read_fields-start : goal.slice_bounds-read_fields-start
slice_bounds-read_fields-start c = omega (arith, find_inside _ _ _ _ c.find-e.ensures (omega arith))

pub returns-in_err-n : goal.returns-in_err-n
returns-in_err-n c =
    let rest = ap (split TAB) (take_rest c.args.body.now (c.find-e.result + 1)) in
    rw c.from_residual-in_err-n.ensures (S.told_none _ _ (S.line-over _ _ c.find-e.ensures c.if-e-body.false _ rest (sym c.in_err-n.was ∙ c.read_fields.ensures.value)))

pub returns-then-n-width : goal.returns-then-n-width
returns-then-n-width c =
    let rest = ap (split TAB) (take_rest c.args.body.now (c.find-e.result + 1)) in
    S.told_none _ _ (
    S.line-off _ _ c.find-e.ensures c.if-e-body.false _ rest c.in_ok-kind.kind c.in_ok-n.n _ (sym c.in_ok-n.was ∙ c.read_fields.ensures.value) (sym c.in_ok-kind.was ∙ c.kind_of.ensures) c.width.ensures c.if-n-width.true
    )

pub returns : goal.returns
returns c =
    let rest = ap (split TAB) (take_rest c.args.body.now (c.find-e.result + 1)) in
    S.line-told _ _ c.find-e.ensures c.if-e-body.false _ rest c.in_ok-kind.kind c.in_ok-n.n _ (sym c.in_ok-n.was ∙ c.read_fields.ensures.value) (sym c.in_ok-kind.was ∙ c.kind_of.ensures) c.width.ensures _ _ c.if-n-width.false
    (c.fill.ensures ∙ ap (λ v. written c.args.row.now 0 (row_of (sorts c.in_ok-kind.kind) v)) c.in_ok-n.ensures.vals_after)
