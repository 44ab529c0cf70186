-- 01, demand 3, second half, of a page's records: between places that hold a port or an unported end, a search finds a line exactly if in the unpruned graph of
-- the page links join the start to an end that has a link, pruned or not; otherwise it answers 11.
use Rattle.std.specs.Prelude.{◌≡◌, Bool, true, false, List, [], ℕ, ◌+◌, ◌*◌, ◌<◌, length, get_or}
use Rattle.astar.specs.Reached.{LIMIT}
use Rattle.anchors.specs.Records.{BOX, ROW, NET, Records}
use Rattle.path_finding.specs.Places.{number, line_between}
use Rattle.line_exists.specs.Exists.{Joined}
use Rattle.search.specs.Claims.{Told}
use Rattle.page_graph.specs.Lent as Rows
use Rattle.page_graph.specs.Page.{crowded, graph_of_page}
use Rattle.page_search.specs.Page.{search_number, search_line}

-- ---- what a valid desk gives

-- one of the n rows of `width` words has this key
pub record Keyed (rows : List ℕ) (width n key : ℕ) : Type 0 where
  pub row : ℕ
  pub listed : row < n
  pub is : get_or rows (row * width) 0 ≡ key

-- rows within the limits, and words of 32 bits
pub record Sound (r : Records) : Type 0 where
  pub rows : Rows.Asked r
  pub port_words : (k : ℕ) → get_or r.ports k 0 < LIMIT
  pub end_words : (k : ℕ) → get_or r.ends k 0 < LIMIT

-- 'every port's box and every end's net is there'
pub record Owned (r : Records) : Type 0 where
  pub box_there : (k : ℕ) → k < r.port_count → Keyed r.boxes BOX r.box_count (get_or r.ports (k * ROW) 0)
  pub net_there : (k : ℕ) → k < r.end_count → Keyed r.nets NET r.net_count (get_or r.ends (k * ROW) 0)

-- ---- 'a place holds the ports and unported ends (mark 0) at its coordinates'

-- the row k is at (x, y)
pub record RowAt (rows : List ℕ) (n x y k : ℕ) : Type 0 where
  pub listed : k < n
  pub x_is : get_or rows (k * ROW + 1) 0 ≡ x
  pub y_is : get_or rows (k * ROW + 2) 0 ≡ y

pub data Holds (r : Records) (x y : ℕ) : Type 0 where
  port : (k : ℕ) → RowAt r.ports r.port_count x y k → Holds r x y
  unported : (k : ℕ) → RowAt r.ends r.end_count x y k → get_or r.ends (k * ROW + 3) 0 ≡ 0 → Holds r x y

-- a page that is not crowded, and places that hold something for the start and each end
pub record Asked (r : Records) (x y : ℕ) (exs eys : List ℕ) : Type 0 where
  pub sound : Sound r
  pub owned : Owned r
  pub roomy : crowded r ≡ false
  pub start : Holds r x y
  pub ends : (k : ℕ) → k < length exs → Holds r (get_or exs k 0) (get_or eys k 0)

-- 0 exactly if joined in the unpruned graph, else 11
pub record Decided (r : Records) (x y : ℕ) (exs eys : List ℕ) : Type 0 where
  pub found : (pruned : Bool) → Joined (graph_of_page r false) x y exs eys → search_number r pruned x y exs eys ≡ 0
  pub joined : (pruned : Bool) → search_number r pruned x y exs eys ≡ 0 → Joined (graph_of_page r false) x y exs eys
  pub missed : (pruned : Bool) → (Joined (graph_of_page r false) x y exs eys → ⊥) → search_number r pruned x y exs eys ≡ 11
  pub same : search_number r true x y exs eys ≡ search_number r false x y exs eys

-- every search on a page: 8 exactly if it is crowded, else what is true of every search on its graph
pub record PageTold (r : Records) (pruned : Bool) (x y : ℕ) (exs eys : List ℕ) : Type 0 where
  pub full : crowded r ≡ true → (search_number r pruned x y exs eys ≡ 8) × (search_line r pruned x y exs eys ≡ [])
  pub number_is : crowded r ≡ false → search_number r pruned x y exs eys ≡ number (graph_of_page r pruned) x y exs eys
  pub line_is : crowded r ≡ false → search_line r pruned x y exs eys ≡ line_between (graph_of_page r pruned) x y exs eys
  pub told : crowded r ≡ false → Told (graph_of_page r pruned) x y exs eys

abbrev pub PageSearches : Type 0
PageSearches = (r : Records) → Sound r → (pruned : Bool) (x y : ℕ) (exs eys : List ℕ) → PageTold r pruned x y exs eys

abbrev pub PageLineExists : Type 0
PageLineExists = (r : Records) (x y : ℕ) (exs eys : List ℕ) → Asked r x y exs eys → Decided r x y exs eys
