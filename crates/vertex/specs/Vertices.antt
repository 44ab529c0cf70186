-- 01, 'Nets': the vertices of a page, lent as a list of x, one of y and one of letters.
use Rattle.std.specs.Prelude.{List, ℕ, get_or}
use Rattle.vertex.specs.Kinds.{kind_of}
use Rattle.vertex.specs.declared.Vertex.{Vertex}

-- the vertex i of the lists
abbrev pub vertex_at : List ℕ → List ℕ → List ℕ → ℕ → Vertex
vertex_at x y K i = record { x = get_or x i 0; y = get_or y i 0; kind = kind_of (get_or K i 0) }
