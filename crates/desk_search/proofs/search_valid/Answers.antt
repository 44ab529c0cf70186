use Rattle.std.proofs.Common.{arith, sym, ap, ◌∙◌}
use Rattle.fixed.proofs.Lists.{length-ups}
use Rattle.book.specs.Refusals.{number_of}
use Rattle.book.proofs.Refusals.{passed}
use Rattle.desk_search.proofs.Call.{query-ends, valid-sound, valid-number, valid-left}
use Rattle.desk_search.proofs.search_valid.Goals as goal

pub invariant_of-ends : goal.invariant_of-ends
invariant_of-ends c =
    record { even = omega (arith, (query-ends _ c.requires.query_value).0, length-ups c.args.request.end_x.now, length-ups c.args.request.end_y.now) }

pub search_page-requires-clause-sound : goal.search_page-requires-clause-sound
search_page-requires-clause-sound c = valid-sound c.args.desk.now c.requires.desk_value _ c.records-records.ensures

pub search_page-requires-clause-few : goal.search_page-requires-clause-few
search_page-requires-clause-few c = omega (arith, (query-ends _ c.requires.query_value).1, length-ups c.args.request.end_x.now)

pub returns-in_err-search_page-clause-value : goal.returns-in_err-search_page-clause-value
returns-in_err-search_page-clause-value c =
    valid-number c.args.desk.now c.requires.desk_value _ c.records-records.ensures c.args.request _ c.args.output.now _ c.search_page.ensures.kept c.search_page.ensures.searched _
    (passed _ _ c.from_residual.ensures.1 ∙ sym (ap number_of c.in_err-search_page.was))

pub returns-in_err-search_page-clause-output_after : goal.returns-in_err-search_page-clause-output_after
returns-in_err-search_page-clause-output_after c =
    valid-left c.args.desk.now c.requires.desk_value _ c.records-records.ensures c.args.request _ c.args.output.now _ c.search_page.ensures.kept c.search_page.ensures.searched _
    (passed _ _ c.from_residual.ensures.1 ∙ sym (ap number_of c.in_err-search_page.was))

pub returns-clause-value : goal.returns-clause-value
returns-clause-value c =
    valid-number c.args.desk.now c.requires.desk_value _ c.records-records.ensures c.args.request _ c.args.output.now _ c.search_page.ensures.kept c.search_page.ensures.searched _
    (sym (ap number_of c.in_ok-search_page.was))

pub returns-clause-output_after : goal.returns-clause-output_after
returns-clause-output_after c =
    valid-left c.args.desk.now c.requires.desk_value _ c.records-records.ensures c.args.request _ c.args.output.now _ c.search_page.ensures.kept c.search_page.ensures.searched _
    (sym (ap number_of c.in_ok-search_page.was))
