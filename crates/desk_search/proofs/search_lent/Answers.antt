use Rattle.std.proofs.Common.{sym, ◌∙◌}
use Rattle.book.proofs.Refusals.{erred, not_erred}
use Rattle.desk.proofs.Whole.{sound-at, unsound-at}
use Rattle.desk_search.proofs.Call.{refused-desk, refused-query, passed, left-2, cleared-zeros}
use Rattle.desk_search.proofs.search_lent.Goals as goal
use Rattle.desk_search.proofs.search_lent.Goals.{then-is_err-via-then-is_err, then-is_err-via-else-is_err+then-not-ok_request}

pub returns-then-is_err-clause-value : goal.returns-then-is_err-clause-value
returns-then-is_err-clause-value c =
    elim c.then-is_err.branch [
      | then-is_err-via-then-is_err w ↦ refused-desk _ _ (unsound-at _ _ c.validate.ensures c.requires (erred _ (sym c.is_err.ensures.value ∙ w.if-is_err.true)))
      | then-is_err-via-else-is_err+then-not-ok_request w ↦
          refused-query _ _ (sound-at _ _ c.validate.ensures (not_erred _ (sym c.is_err.ensures.value ∙ w.if-is_err.false))).book (sym w.ok_request.ensures ∙ w.if-not-ok_request.true)
    ]

pub returns-then-is_err-clause-output_after : goal.returns-then-is_err-clause-output_after
returns-then-is_err-clause-output_after c = left-2 _ _ _ _ (cleared-zeros _ _ c.clear.ensures.cleared)

pub search_valid-requires-clause-desk_value : goal.search_valid-requires-clause-desk_value
search_valid-requires-clause-desk_value c = (sound-at _ _ c.validate.ensures (not_erred _ (sym c.is_err.ensures.value ∙ c.if-is_err.false))).book

pub returns-clause-value : goal.returns-clause-value
returns-clause-value c =
    passed _ _ (sound-at _ _ c.validate.ensures (not_erred _ (sym c.is_err.ensures.value ∙ c.if-is_err.false))).book
    (sym c.ok_request.ensures ∙ c.if-not-ok_request.false) _ c.search_valid.ensures.value
