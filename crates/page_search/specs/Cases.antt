-- 01, 'Cases at the edges': *'one box with ports (0,0) PosX, (20,0) NegX, (10,40) no direction, the box at the point (1000,1000)', as records: first to third port is
-- 11. Beside it: first to second port is found. Both are cases of `PageLineExists`: what it asks is so, and by it the places are joined, or not.
use Rattle.std.specs.Prelude.{◌≡◌, Bool, true, false, [], ◌∷◌, ℕ}
use Rattle.graph.specs.Cases.{at}
use Rattle.line_exists.specs.Exists.{Joined}
use Rattle.page_graph.specs.Cases.{one_box}
use Rattle.page_graph.specs.Page.{graph_of_page}
use Rattle.page_search.specs.Page.{search_number}
use Rattle.page_search.specs.Exists.{Asked}

-- of a search from the first port to the place (x, y), in units
abbrev pub from_first : Bool → ℕ → ℕ → ℕ
from_first pruned x y = search_number one_box pruned (at 0) (at 0) (at x ∷ []) (at y ∷ [])

abbrev pub AskedTo : ℕ → ℕ → Type 0
AskedTo x y = Asked one_box (at 0) (at 0) (at x ∷ []) (at y ∷ [])

abbrev pub JoinedTo : ℕ → ℕ → Type 0
JoinedTo x y = Joined (graph_of_page one_box false) (at 0) (at 0) (at x ∷ []) (at y ∷ [])

pub record Cases : Type 0 where
  pub second : from_first true 20 0 ≡ 0
  pub third : from_first true 10 40 ≡ 11
  pub asked_second : AskedTo 20 0
  pub asked_third : AskedTo 10 40
  pub joined_second : JoinedTo 20 0
  pub apart_third : JoinedTo 10 40 → ⊥
