-- 01, 'Cases at the edges': *'endpoints (0,0), (20,0), (10,0), no boxes: 14'. Beside it: the first two of them alone are a net of one wire, 12 for one
-- endpoint, 13 if one is no node, on the same graph. Units are 256 steps; coordinates are counted from −2^31.
use Rattle.std.specs.Prelude.{◌≡◌, Bool, true, false, List, [], ◌∷◌, ℕ, replicate}
use Rattle.fixed.specs.Up.{BIAS}
use Rattle.nodes.specs.Graph.{Graph, none}
use Rattle.scan.specs.Scan.{Anchors}
use Rattle.graph.specs.Build.{Boxes, made}
use Rattle.graph.specs.Cases.{at}
use Rattle.wire.specs.Wires.{Vertices, vertices}
use Rattle.net.specs.Nets.{connect_net}

abbrev pub no_boxes : Boxes
no_boxes = record { min_x = []; min_y = []; max_x = []; max_y = []; count = 0 }

-- the endpoints as anchors: all directions, no box
abbrev pub three : Anchors
three =
    record { xs = at 0 ∷ at 20 ∷ at 10 ∷ []; ys = at 0 ∷ at 0 ∷ at 0 ∷ []; dirs = 15 ∷ 15 ∷ 15 ∷ []; boxes = none ∷ none ∷ none ∷ []; explicit = 3; count = 3 }

abbrev pub row : Bool → Graph
row pruned = made no_boxes three pruned

-- a page with no vertex yet
abbrev pub blank : Vertices
blank = vertices (replicate 512 BIAS) (replicate 512 BIAS) (replicate 512 0) 0

-- the number of a net with these endpoints, all at y = 0
abbrev pub number_of : Bool → List ℕ → List ℕ → ℕ
number_of pruned px py = (connect_net (row pruned) px py blank (replicate 768 0) 0).number

pub record Cases : Type 0 where
  pub fourteen : number_of true (at 0 ∷ at 20 ∷ at 10 ∷ []) (at 0 ∷ at 0 ∷ at 0 ∷ []) ≡ 14
  pub fourteen_unpruned : number_of false (at 0 ∷ at 20 ∷ at 10 ∷ []) (at 0 ∷ at 0 ∷ at 0 ∷ []) ≡ 14
  pub first_two : number_of true (at 0 ∷ at 20 ∷ []) (at 0 ∷ at 0 ∷ []) ≡ 0
  pub one : number_of true (at 0 ∷ []) (at 0 ∷ []) ≡ 12
  pub third_unknown : number_of true (at 0 ∷ at 20 ∷ at 10 ∷ []) (at 0 ∷ at 0 ∷ at 40 ∷ []) ≡ 13
