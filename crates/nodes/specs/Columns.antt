-- The graph in a `Graph` of the code: the first `count` of each column; and all that the columns hold. Places are signed steps, as lent lists are.
use Rattle.std.specs.Prelude.{List, [], ◌∷◌, ℕ, take, get_or}
use Rattle.std.specs.List.{flat_map}
use Rattle.fixed.specs.Up.{ups}
use Rattle.nodes.specs.declared.Graph.{Graph as Store}
use Rattle.nodes.specs.Graph.{Graph, NODES}

-- the four links of a node
abbrev pub four_of : List ℕ → List ℕ
four_of l = get_or l 0 0 ∷ get_or l 1 0 ∷ get_or l 2 0 ∷ get_or l 3 0 ∷ []

-- four links a node, one node behind the other
unfoldable pub links_of : List (List ℕ) → List ℕ
links_of ls = flat_map four_of ls

abbrev pub graph_of : Store → Graph
graph_of s = record { count = s.count; xs = take s.count (ups s.xs); ys = take s.count (ups s.ys); links = links_of (take s.count s.links); marks = take s.count s.marks }

-- all nodes, what stands behind the count too
abbrev pub whole_of : Store → Graph
whole_of s = record { count = NODES; xs = ups s.xs; ys = ups s.ys; links = links_of s.links; marks = s.marks }
