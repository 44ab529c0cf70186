-- 01, 'Separation': the wires of a laid-out page are separated; what stands behind its vertices stays.
use Rattle.std.specs.Prelude.{List, ◌++◌, ℕ, ◌*◌, take, drop}
use Rattle.wire.specs.Wires.{Vertices, vertices}
use Rattle.fixup.specs.Moves.{Places}
use Rattle.fixup.specs.Separation.{separate_wires}
use Rattle.page_laws.specs.Separated.{places_of}

-- the places of the page's n vertices then: K and J are its vertices' kinds and its junction rows
unfoldable pub apart : List ℕ → List ℕ → Vertices → Places
apart K J P = separate_wires K J (places_of P)

-- 'separation passes refused nets by': the vertices and junctions of a page are those of the nets that got 0
unfoldable pub separated : List ℕ → ℕ → Vertices → Vertices
separated R j P =
    let s = apart P.kinds (take (3 * j) R) P in
    vertices (s.x ++ drop P.n P.x) (s.y ++ drop P.n P.y) P.kinds P.n
