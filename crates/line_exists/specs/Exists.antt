-- 01, demand 3, second half, on the definitions: between explicit places a line is found on the pruned graph exactly if on the unpruned one, and exactly
-- if in the unpruned graph one of the ends has a link and links join the start to it. Otherwise the number is 11.
use Rattle.std.specs.Prelude.{◌≡◌, Bool, true, false, List, ℕ, ◌<◌, ◌≤◌, length, get_or}
use Rattle.nodes.specs.Graph.{Graph, NODES}
use Rattle.nodes.specs.Chains.{HasLink, Joins}
use Rattle.scan.specs.Scan.{Anchors}
use Rattle.graph.specs.Build.{Boxes, whole, made}
use Rattle.astar.specs.Reached.{LIMIT}
use Rattle.path_finding.specs.Places.{number}

-- (x, y) is the place of an explicit anchor
pub record Named (s : Anchors) (x y : ℕ) : Type 0 where
  pub anchor : ℕ
  pub listed : anchor < s.count
  pub explicit : anchor < s.explicit
  pub x_is : get_or s.xs anchor 0 ≡ x
  pub y_is : get_or s.ys anchor 0 ≡ y

-- what is asked: 4,096 nodes before pruning, coordinates of 32 bits, counted from −2^31, and explicit places for the start and each end
pub record Asked (b : Boxes) (s : Anchors) (x y : ℕ) (exs eys : List ℕ) : Type 0 where
  pub few : (whole b s).count ≤ NODES
  pub x_low : (k : ℕ) → k < s.count → get_or s.xs k 0 < LIMIT
  pub y_low : (k : ℕ) → k < s.count → get_or s.ys k 0 < LIMIT
  pub start : Named s x y
  pub ends : (k : ℕ) → k < length exs → Named s (get_or exs k 0) (get_or eys k 0)

-- one of the ends has a link, and a chain of none or more links leads to it from (x, y)
pub record Joined (g : Graph) (x y : ℕ) (exs eys : List ℕ) : Type 0 where
  pub end : ℕ
  pub listed : end < length exs
  pub linked : HasLink g (get_or exs end 0) (get_or eys end 0)
  pub joins : Joins g x y (get_or exs end 0) (get_or eys end 0)

-- with pruning or without, the number is 0 exactly if they are joined in the unpruned graph, else 11
pub record Decided (b : Boxes) (s : Anchors) (x y : ℕ) (exs eys : List ℕ) : Type 0 where
  pub found : (pruned : Bool) → Joined (whole b s) x y exs eys → number (made b s pruned) x y exs eys ≡ 0
  pub joined : (pruned : Bool) → number (made b s pruned) x y exs eys ≡ 0 → Joined (whole b s) x y exs eys
  pub missed : (pruned : Bool) → (Joined (whole b s) x y exs eys → ⊥) → number (made b s pruned) x y exs eys ≡ 11
  pub same : number (made b s true) x y exs eys ≡ number (made b s false) x y exs eys

abbrev pub LineExists : Type 0
LineExists = (b : Boxes) (s : Anchors) (x y : ℕ) (exs eys : List ℕ) → Asked b s x y exs eys → Decided b s x y exs eys
