-- The search on the graph that is handed back is the search on the page.
use Rattle.std.proofs.Common.{◌≡◌, Bool, true, false, List, [], ℕ, ◌<◌}
use Rattle.nodes.specs.Graph.{Graph}
use Rattle.astar.specs.Reached.{Ready}
use Rattle.path_finding.specs.Line.{Written}
use Rattle.anchors.specs.Records.{Records}
use Rattle.page_graph.specs.Page.{crowded, graph_of_page}
use Rattle.search.specs.Searched.{Searched}
use Rattle.page_search.specs.Page.{CROWDED, search_number, search_line, PageSearched}
use Rattle.page_search.specs.Exists.{Sound}
use Rattle.page_search.proofs.Ready.{page-ready}

pub searchable : (r : Records) → Sound r → (pruned : Bool) → crowded r ≡ false → (G : Graph) → G ≡ graph_of_page r pruned → 0 < G.count → Ready G
searchable r s pruned e G same = rw same (page-ready r s e pruned)

module _ (r : Records) (pruned : Bool) (x y : ℕ) (exs eys lx ly kinds dirs : List ℕ) where
  pub crowded-searched : crowded r ≡ true → ((G : Graph) → Written G.xs G.ys G.links [] lx ly kinds dirs) → PageSearched r pruned x y exs eys CROWDED 0 lx ly kinds dirs
  unfolding search_number search_line
  crowded-searched e w = record { number_is = rw e; nodes_is = rw e; written = rw e (w (graph_of_page r pruned)) }

  pub roomy-searched : crowded r ≡ false → (num nodes : ℕ) → Searched (graph_of_page r pruned) x y exs eys num nodes lx ly kinds dirs
      → PageSearched r pruned x y exs eys num nodes lx ly kinds dirs
  unfolding search_number search_line
  roomy-searched e num nodes s = record { number_is = rw e s.number_is; nodes_is = rw e s.nodes_is; written = rw e s.written }
