-- 01, 'Search' and 'Numbers handed back' 0, 8, 9, 10, 11: a search on a page, from its records.
use Rattle.std.specs.Prelude.{◌≡◌, Bool, cond, List, [], ℕ, length, Result}
use Rattle.fixed.specs.Up.{ups}
use Rattle.book.specs.Refusals.{number_of}
use Rattle.book.specs.declared.Refusal.{Refusal}
use Rattle.anchors.specs.Records.{Records}
use Rattle.path_finding.specs.Line.{Written}
use Rattle.path_finding.specs.Places.{number, line_between, nodes_in}
use Rattle.path_finding.specs.Lent.{ends_x, ends_y}
use Rattle.path_finding.specs.declared.Ends.{Ends}
use Rattle.path_finding.specs.declared.Output.{Output}
use Rattle.page_graph.specs.Page.{crowded, graph_of_page}

-- '8: over 2,048 implicit anchors or 4,096 nodes'
abbrev pub CROWDED : ℕ
CROWDED = 8

-- the number of a search from (x, y) to the ends, on the page's graph, pruned or not: 8 is tried before the start and the ends are looked up
unfoldable pub search_number : Records → Bool → ℕ → ℕ → List ℕ → List ℕ → ℕ
search_number r pruned x y exs eys = let m = number (graph_of_page r pruned) x y exs eys in cond (crowded r) CROWDED m

-- the line, as nodes of the page's graph; none unless the number is 0
unfoldable pub search_line : Records → Bool → ℕ → ℕ → List ℕ → List ℕ → List ℕ
search_line r pruned x y exs eys = let l = line_between (graph_of_page r pruned) x y exs eys in cond (crowded r) [] l

-- what is handed back: the number, how many nodes the line has, and in the four outputs, to the end of each, the line with zeros behind it
pub record PageSearched (r : Records) (pruned : Bool) (x y : ℕ) (exs eys : List ℕ) (num nodes : ℕ) (lx ly kinds dirs : List ℕ) : Type 0 where
  pub number_is : num ≡ search_number r pruned x y exs eys
  pub nodes_is : nodes ≡ length (search_line r pruned x y exs eys)
  pub written : Written (graph_of_page r pruned).xs (graph_of_page r pruned).ys (graph_of_page r pruned).links (search_line r pruned x y exs eys) lx ly kinds dirs

-- the same, of what the code is lent
abbrev pub PageSearchedIn : Records → Bool → ℕ → ℕ → Ends → Result ℕ Refusal → Output → Type 0
PageSearchedIn r pruned x y ends found o =
    PageSearched r pruned x y (ends_x ends) (ends_y ends) (number_of found) (nodes_in found) (ups o.x.now) (ups o.y.now) o.kinds.now o.directions.now
