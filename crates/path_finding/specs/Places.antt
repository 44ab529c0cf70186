-- 01, 'Numbers handed back' 0, 9, 10, 11: a search between places.
use Rattle.std.specs.Prelude.{ℕ, zero, suc, ◌-◌, ◌≡◌, List, [], Bool, true, cond, ◌&&◌, length, get_or, drop, ltb, eqb, Result, Ok, Err}
use Rattle.book.specs.declared.Refusal.{Refusal}
use Rattle.nodes.specs.Graph.{Graph, seek}
use Rattle.path_finding.specs.Line.{line, table}

-- the node of the k-th end, or n where there is none among the n nodes
unfoldable pub node_at : List ℕ → List ℕ → ℕ → List ℕ → List ℕ → ℕ → ℕ
node_at xs ys n exs eys k = seek xs ys n (get_or exs k 0) (get_or eys k 0)

-- whether each of the first k ends is a node
unfoldable pub known : List ℕ → List ℕ → ℕ → List ℕ → List ℕ → ℕ → Bool
known xs ys n exs eys zero = true
known xs ys n exs eys (suc k) = known xs ys n exs eys k && ltb (node_at xs ys n exs eys k) n

-- the nodes of the start and of the ends
abbrev pub start_of : Graph → ℕ → ℕ → ℕ
start_of G x y = seek G.xs G.ys G.count x y

abbrev pub ends_of : Graph → List ℕ → List ℕ → List ℕ
ends_of G exs eys = table (node_at G.xs G.ys G.count exs eys) (length exs)

abbrev pub ends_known : Graph → List ℕ → List ℕ → Bool
ends_known G exs eys = known G.xs G.ys G.count exs eys (length exs)

-- the line from the place (x, y) to one of the ends, none at 9, 10 and 11
unfoldable pub line_between : Graph → ℕ → ℕ → List ℕ → List ℕ → List ℕ
line_between G x y exs eys =
    let l = line G (ends_of G exs eys) (start_of G x y) in
    cond (ltb (start_of G x y) G.count) (cond (ends_known G exs eys) l []) []

-- the number: the start is looked up first, then the ends
unfoldable pub number : Graph → ℕ → ℕ → List ℕ → List ℕ → ℕ
number G x y exs eys =
    let m = length (line_between G x y exs eys) in
    cond (ltb (start_of G x y) G.count) (cond (ends_known G exs eys) (cond (eqb m 0) 11 0) 10) 9

-- how many nodes the line has, if there is one
abbrev pub nodes_in : Result ℕ Refusal → ℕ
nodes_in (Ok n) = n
nodes_in (Err e) = 0

-- what a search between places hands back: the number, how many nodes the line has, and the line at the end of a list
pub record Answered (G : Graph) (x y : ℕ) (exs eys : List ℕ) (num nodes : ℕ) (path : List ℕ) : Type 0 where
  pub number_is : num ≡ number G x y exs eys
  pub nodes_is : nodes ≡ length (line_between G x y exs eys)
  pub line_is : drop (length path - nodes) path ≡ line_between G x y exs eys

-- the first k ends: whether each is a node, and their nodes
abbrev pub known_to : Graph → List ℕ → List ℕ → ℕ → Bool
known_to G exs eys k = known G.xs G.ys G.count exs eys k

abbrev pub nodes_to : Graph → List ℕ → List ℕ → ℕ → List ℕ
nodes_to G exs eys k = table (node_at G.xs G.ys G.count exs eys) k
