-- A page that was read is laid out, or it is crowded.
use mathlib.Core.Path.{sym, ◌∙◌}
use borrow.Author.Rules.{rules}
use Rattle.book.proofs.Refusals.{erred, not_erred}
use Rattle.page_listing.proofs.Laid.{lent-sized, crowded-room, crowded-printed, laid-printed, drawing-fits}
use Rattle.page_listing.proofs.print_desk.Goals as goal

pub write_crowded-requires : goal.write_crowded-requires
write_crowded-requires c = crowded-room _ c.requires.room

pub returns-then-is_err-clause-put : goal.returns-then-is_err-clause-put
returns-then-is_err-clause-put c =
    let q = c.new-choice.ensures in
    let e = c.layout-laid.ensures in
    crowded-printed c.args.desk.now c.requires.in_bounds c.requires.desk_value _ q.ok _ _ q.pruned q.apart _ _ (lent-sized _ _ _ _ _ (search rules) (search rules) (search rules) (search rules) (search rules)) _ e.value e.lists_after _ _ _ (erred _ (sym c.is_err.ensures.value ∙ c.if-is_err.true)) c.write_crowded.ensures.put

pub print_laid-requires-clause-fits : goal.print_laid-requires-clause-fits
print_laid-requires-clause-fits c =
    let q = c.new-choice.ensures in
    let e = c.layout-laid.ensures in
    drawing-fits c.args.desk.now c.requires.in_bounds c.requires.desk_value _ q.ok _ _ q.pruned q.apart _ _ (lent-sized _ _ _ _ _ (search rules) (search rules) (search rules) (search rules) (search rules)) _ e.value e.lists_after (not_erred _ (sym c.is_err.ensures.value ∙ c.if-is_err.false))

pub returns-clause-put : goal.returns-clause-put
returns-clause-put c =
    let q = c.new-choice.ensures in
    let e = c.layout-laid.ensures in
    laid-printed c.args.desk.now c.requires.in_bounds c.requires.desk_value _ q.ok _ _ q.pruned q.apart _ _ (lent-sized _ _ _ _ _ (search rules) (search rules) (search rules) (search rules) (search rules)) _ e.value e.lists_after _ _ _ (not_erred _ (sym c.is_err.ensures.value ∙ c.if-is_err.false)) c.print_laid.ensures.put
