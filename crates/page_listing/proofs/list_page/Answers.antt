-- `page_listing::list_page` meets its contract. The text is read onto a desk of its own.
use mathlib.Core.Path.{sym, ◌∙◌}
use borrow.Author.Rules.{rules}
use Rattle.book.proofs.Refusals.{erred, not_erred}
use Rattle.page_listing.proofs.Read.{book-valid, refused-printed, page-printed}
use Rattle.page_listing.proofs.list_page.Goals as goal

pub returns-then-is_err : goal.returns-then-is_err
returns-then-is_err c = record { put = refused-printed c.args.text.now _ _ (search rules) (search rules) _ _ _ c.read_text.ensures.value c.read_text.ensures.desk_after c.read_text.ensures.refusal_after _ _ _ _ _ (erred _ (sym c.is_err.ensures.value ∙ c.if-is_err.true)) c.write_refused.ensures.put; first = c.write_refused.ensures.first }

pub print_desk-requires : goal.print_desk-requires
print_desk-requires c = record { in_bounds = search rules; desk_value = book-valid c.args.text.now _ _ (search rules) (search rules) _ _ _ c.read_text.ensures.value c.read_text.ensures.desk_after c.read_text.ensures.refusal_after; room = c.requires }

pub returns : goal.returns
returns c = record { put = page-printed c.args.text.now _ _ (search rules) (search rules) _ _ _ c.read_text.ensures.value c.read_text.ensures.desk_after c.read_text.ensures.refusal_after _ _ _ _ _ (not_erred _ (sym c.is_err.ensures.value ∙ c.if-is_err.false)) c.print_desk.ensures.put; first = c.print_desk.ensures.first }
