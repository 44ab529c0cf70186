-- `page_listing::list_wires` meets its contract.
use Rattle.page_listing.proofs.Decides.{prints}
use Rattle.page_listing.proofs.list_wires.Goals as goal

pub returns : goal.returns
returns c = record { prints = prints _ _ _ _ c.list_page.ensures.put; first = c.list_page.ensures.first }
