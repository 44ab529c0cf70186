-- The tests in their order.
use Rattle.std.proofs.Common.{◌≡◌, sym, ◌∙◌}
use Rattle.book.proofs.Refusals.{erred, not_erred}
use Rattle.desk.specs.Desk.{book_of, seen_of}
use Rattle.desk.proofs.Whole.{sound-at}
use Rattle.page_layout.specs.Drawing.{drawing_in}
use Rattle.desk_layout.specs.Layout.{left, tested}
use Rattle.desk_layout.proofs.Call.{lent-2, lent-2c, lent-on}
use Rattle.desk_layout.proofs.Outputs.{no-drawing}
use Rattle.desk_layout.proofs.layout_lent.Goals as goal
use Rattle.desk_layout.proofs.layout_lent.Goals.{then-is_err-via-then-is_err, then-is_err-via-else-is_err+then-not-is_ok}

pub returns-then-is_err : goal.returns-then-is_err
returns-then-is_err c =
    let ws = c.args.desk.now in
    let q = c.args.choice in
    let d = drawing_in c.args.sheet.now in
    let e = sym c.is_err.ensures.value in
    let z = no-drawing _ _ _ _ _ _ _ _ _ _ c.clear.ensures.cleared in
    let p : (2 ≡ tested (seen_of ws) q) × (drawing_in c.clear.new.self ≡ left 2 (book_of ws).lists q d) =
    elim c.then-is_err.branch [
      | then-is_err-via-then-is_err w ↦ lent-2 ws q d _ c.requires c.validate.ensures (erred _ (e ∙ w.if-is_err.true)) _ z
      | then-is_err-via-else-is_err+then-not-is_ok w ↦ lent-2c ws q d _ c.requires c.validate.ensures (not_erred _ (e ∙ w.if-is_err.false)) (sym w.is_ok.ensures ∙ w.if-not-is_ok.true) _ z
    ] in
    record { value = p.0; sheet_after = p.1; kept = c.clear.ensures.kept }

pub layout_valid-requires-clause-desk_value : goal.layout_valid-requires-clause-desk_value
layout_valid-requires-clause-desk_value c = (sound-at _ _ c.validate.ensures (not_erred _ (sym c.is_err.ensures.value ∙ c.if-is_err.false))).book

pub returns-clause-value : goal.returns-clause-value
returns-clause-value c =
    lent-on c.args.desk.now c.args.choice (drawing_in c.args.sheet.now) _ c.requires c.validate.ensures (not_erred _ (sym c.is_err.ensures.value ∙ c.if-is_err.false)) (sym c.is_ok.ensures ∙ c.if-not-is_ok.false) _ c.layout_valid.ensures.value
