-- 01, 'Numbers handed back' 0 and 8: a page laid out from its records alone, pruned or not, separated or not. P is a page with no net, in the lent lists.
use Rattle.std.specs.Prelude.{Bool, cond, ℕ}
use Rattle.anchors.specs.Records.{Records}
use Rattle.page_graph.specs.Page.{crowded, graph_of_page}
use Rattle.layout.specs.Layout.{Page, nets_to, drawn}

-- layout's own number is 0 even if every net is refused
unfoldable pub layout_number : Records → ℕ
layout_number r = cond (crowded r) 8 0

-- all nets, in kept order
unfoldable pub routed : Records → Bool → Page → Page
routed r pruned P = nets_to (graph_of_page r pruned) r.nets r.ends r.end_count r.net_count P

unfoldable pub layout_page : Records → Bool → Bool → Page → Page
layout_page r pruned apart P = cond (crowded r) P (drawn apart (routed r pruned P))
