-- 01, 'Nets' (`route_root_wire`, `route_branch_wires`): one wire of a net along the line that a search gave, a line of no nodes where it gave none.
-- Numbers: 14 a line of one node, 15 page vertices or net ends over their limit.
use Rattle.std.specs.Prelude.{◌≡◌, Bool, false, ◌&&◌, cond, List, ℕ, ◌+◌, ◌-◌, ◌*◌, ◌<◌, ◌≤◌, eqb, leb, get_or, set}
use Rattle.vertex.specs.Pages.{VERTICES, carried}
use Rattle.vertex.specs.Kinds.{Junction}
use Rattle.wire.specs.Ends.{ENDS, CORNER, end_x_at, end_y_at, end_vertex, end_kind, junction_end, nearest_end}
use Rattle.wire.specs.Lines.{Line}
use Rattle.wire.specs.Wires.{Wires, Ends, push_vertices, push_fallback, line_vertices, line_ends, fallback_vertices}

-- 0 and the wires with one more, or why it is refused and the wires as they were
pub record Tried : Type 0 where
  pub number : ℕ
  pub wires : Wires

abbrev pub tried : ℕ → Wires → Tried
tried number wires = record { number = number; wires = wires }

-- whether v vertices and e ends more than n and m keep the limits
unfoldable pub fits : ℕ → ℕ → ℕ → ℕ → Bool
fits n v m e = leb (n + v) VERTICES && leb (m + e) ENDS

-- a wire along a line
unfoldable pub line_wire : Line → Bool → Junction → Wires → Tried
line_wire L is_root J W =
    let done = tried 0 (push_vertices L is_root J W) in
    cond (eqb L.count 1) (tried 14 W) (cond (fits W.page.n (line_vertices L) W.net.m (line_ends L)) done (tried 15 W))

-- a fallback from s to e
unfoldable pub fallback_wire : ℕ → ℕ → ℕ → ℕ → Bool → Junction → Wires → Tried
fallback_wire sx sy ex ey along J W =
    let done = tried 0 (push_fallback sx sy ex ey along J W) in
    cond (fits W.page.n (fallback_vertices sx sy ex ey along) W.net.m 2) done (tried 15 W)

-- a wire from s; e is where it runs to if there is no line
unfoldable pub route_wire : Line → ℕ → ℕ → ℕ → ℕ → Bool → Bool → Junction → Wires → Tried
route_wire L sx sy ex ey along is_root J W =
    cond (eqb L.count 0) (fallback_wire sx sy ex ey along J W) (line_wire L is_root J W)

-- the end that a branch from (sx, sy) joins: at its line's last place, or where there is no line the first at the least Manhattan distance
unfoldable pub joined_end : Line → ℕ → ℕ → Ends → ℕ
joined_end L sx sy E =
    cond (eqb L.count 0) (nearest_end E.rows sx sy E.m)
    (junction_end E.rows E.m (get_or L.x (L.count - 1) 0) (get_or L.y (L.count - 1) 0))

-- the branch of a net
unfoldable pub route_branch : Line → ℕ → ℕ → Bool → Wires → Tried
route_branch L sx sy along W =
    let e = joined_end L sx sy W.net in
    route_wire L sx sy (end_x_at W.net.rows e) (end_y_at W.net.rows e) along false (carried (eqb (end_kind W.net.rows e) CORNER)) W

-- a junction is a row of three words: the vertex that holds it, the end vertex that joins there, the letter of its kind
unfoldable pub put_junction : List ℕ → ℕ → ℕ → ℕ → ℕ → List ℕ
put_junction R j holder joiner kind = set (set (set R (3 * j) holder) (3 * j + 1) joiner) (3 * j + 2) kind

-- the junctions then: behind j of them a row more, if the branch was made
unfoldable pub join_branch : Line → ℕ → ℕ → Bool → Wires → List ℕ → ℕ → List ℕ
join_branch L sx sy along W R j =
    let e = joined_end L sx sy W.net in
    let T = route_branch L sx sy along W in
    let row = put_junction R j (end_vertex W.net.rows e) (T.wires.page.n - 1) (end_kind W.net.rows e) in
    cond (eqb T.number 0) row R

-- a wire tried on W keeps the limits of a page; at 0 it has two vertices or more, else all is as before
pub record Limited (W : Wires) (T : Tried) : Type 0 where
  pub vertices_most : T.wires.page.n ≤ VERTICES
  pub ends_most : T.wires.net.m ≤ ENDS
  pub two_more : T.number ≡ 0 → W.page.n + 2 ≤ T.wires.page.n
  pub as_before : (T.number ≡ 0 → ⊥) → T.wires ≡ W

-- of a branch that was made: the vertex that holds its junction stands before the branch's last two vertices, and its last vertex is on the page
pub record Joint (L : Line) (sx sy : ℕ) (along : Bool) (W : Wires) : Type 0 where
  pub after : (route_branch L sx sy along W).number ≡ 0
      → end_vertex W.net.rows (joined_end L sx sy W.net) + 1 < (route_branch L sx sy along W).wires.page.n - 1
  pub inside : (route_branch L sx sy along W).number ≡ 0 → (route_branch L sx sy along W).wires.page.n - 1 < (route_branch L sx sy along W).wires.page.n
