use Rattle.path_finding.proofs.Cleared.{cleared-written}
use Rattle.page_search.proofs.Building.{searchable, crowded-searched, roomy-searched}
use Rattle.page_search.proofs.search_page.Goals as goal

pub returns-in_default-clause-searched : goal.returns-in_default-clause-searched
returns-in_default-clause-searched c =
    let refused = c.search_on.ensures.crowded in
    rw (refused.0, refused.1) (crowded-searched _ _ _ _ _ _ _ _ _ _ c.in_default.ensures (cleared-written _ _ refused.2))

pub search_on-requires-2-clause-ready : goal.search_on-requires-2-clause-ready
search_on-requires-2-clause-ready c = searchable _ c.requires.sound _ c.in-Some.ensures.0 _ c.in-Some.ensures.1

pub returns-clause-searched : goal.returns-clause-searched
returns-clause-searched c =
    let on-page = rw c.in-Some.ensures.1 at c.search_on-2.ensures.searched in
    roomy-searched _ _ _ _ _ _ _ _ _ _ c.in-Some.ensures.0 _ _ on-page
