-- 01, 'Nets' (`push_vertices`, `push_fallback_vertices`): what one wire adds to the page's vertices and to its net's ends.
use Rattle.std.specs.Prelude.{Bool, true, ◌&&◌, not, cond, List, ℕ, zero, suc, ◌+◌, ◌-◌, ◌<◌, ◌≤◌, eqb, get_or, set}
use Rattle.fixed.specs.Steps.{dummy}
use Rattle.vertex.specs.Kinds.{letter_of, Junction}
use Rattle.vertex.specs.declared.VertexKind.{VertexKind}
use Rattle.vertex.specs.declared.VertexKind.TheVariants.{WireStart, Dummy, Normal, WireEnd}
use Rattle.wire.specs.Ends.{CORNER, LINE, end_vertex, put_end}
use Rattle.wire.specs.Lines.{Line, straight, kept_to}

-- the columns of the page's vertices, of which n are in use
pub record Vertices : Type 0 where
  pub x : List ℕ
  pub y : List ℕ
  pub kinds : List ℕ
  pub n : ℕ

abbrev pub vertices : List ℕ → List ℕ → List ℕ → ℕ → Vertices
vertices x y kinds n = record { x = x; y = y; kinds = kinds; n = n }

-- the rows of a net's ends, of which m are in use
pub record Ends : Type 0 where
  pub rows : List ℕ
  pub m : ℕ

abbrev pub ends : List ℕ → ℕ → Ends
ends rows m = record { rows = rows; m = m }

pub record Wires : Type 0 where
  pub page : Vertices
  pub net : Ends

abbrev pub wires : Vertices → Ends → Wires
wires page net = record { page = page; net = net }

-- a vertex behind the others
unfoldable pub push_vertex : ℕ → ℕ → VertexKind → Vertices → Vertices
push_vertex px py kind P = vertices (set P.x P.n px) (set P.y P.n py) (set P.kinds P.n (letter_of kind)) (P.n + 1)

-- an end behind the others
unfoldable pub push_end : ℕ → ℕ → ℕ → ℕ → Ends → Ends
push_end px py v kind E = ends (put_end E.rows E.m px py v kind) (E.m + 1)

-- two dummies half the way from the first node of a line to the next, no further than the spacing
unfoldable pub push_dummies : Line → Vertices → Vertices
push_dummies L P =
    let dx = dummy (get_or L.x 0 0) (get_or L.x 1 0) in
    let dy = dummy (get_or L.y 0 0) (get_or L.y 1 0) in
    push_vertex dx dy Dummy (push_vertex dx dy Dummy P)

-- the start and its dummies
unfoldable pub push_start : Line → Bool → Vertices → Vertices
push_start L is_root P = push_dummies L (push_vertex (get_or L.x 0 0) (get_or L.y 0 0) (WireStart is_root) P)

-- two ends at the place of the start, the vertex v: at v, and at the second dummy
unfoldable pub push_start_ends : Line → ℕ → Ends → Ends
push_start_ends L v E =
    let px = get_or L.x 0 0 in
    let py = get_or L.y 0 0 in
    push_end px py (v + 2) CORNER (push_end px py v CORNER E)

-- what a kept node behind the first becomes: a normal corner, the last one the wire's end
unfoldable pub corner_kind : Bool → Junction → VertexKind
corner_kind is_last J = cond is_last (WireEnd J) Normal

-- a corner: a vertex, and an end on it
unfoldable pub push_corner : ℕ → ℕ → VertexKind → Wires → Wires
push_corner px py kind W = wires (push_vertex px py kind W.page) (push_end px py W.page.n CORNER W.net)

-- the node i: a straight one is an end on the line segment behind the last vertex
unfoldable pub push_node : Line → Junction → ℕ → Wires → Wires
push_node L J i W =
    let px = get_or L.x i 0 in
    let py = get_or L.y i 0 in
    let on = wires W.page (push_end px py (W.page.n - 1) LINE W.net) in
    let turn = push_corner px py (corner_kind (eqb (i + 1) L.count) J) W in
    cond (straight L.kinds L.ways i) on turn

-- the k nodes behind the first
unfoldable pub push_nodes : Line → Junction → ℕ → Wires → Wires
push_nodes L J zero W = W
push_nodes L J (suc k) W = push_node L J (suc k) (push_nodes L J k W)

-- start, dummies and corners of a line
unfoldable pub push_vertices : Line → Bool → Junction → Wires → Wires
push_vertices L is_root J W =
    push_nodes L J (L.count - 1) (wires (push_start L is_root W.page) (push_start_ends L W.page.n W.net))

-- how many vertices a line adds, and how many ends
abbrev pub line_vertices : Line → ℕ
line_vertices L = 3 + kept_to L (L.count - 1)

abbrev pub line_ends : Line → ℕ
line_ends L = L.count + 1

-- `push_fallback_vertices`: a wire from s to e where there is no line. Its corner lies along x from the start if the start's node has an X direction,
-- else along y, and is a vertex of its own unless it is the start or the end.
abbrev pub corner_x : Bool → ℕ → ℕ → ℕ
corner_x along sx ex = cond along ex sx

abbrev pub corner_y : Bool → ℕ → ℕ → ℕ
corner_y along sy ey = cond along sy ey

unfoldable pub bent : ℕ → ℕ → ℕ → ℕ → ℕ → ℕ → Bool
bent cx cy sx sy ex ey = not (eqb cx sx && eqb cy sy) && not (eqb cx ex && eqb cy ey)

unfoldable pub fallback_vertices : ℕ → ℕ → ℕ → ℕ → Bool → ℕ
fallback_vertices sx sy ex ey along = cond (bent (corner_x along sx ex) (corner_y along sy ey) sx sy ex ey) 3 2

unfoldable pub push_bend : ℕ → ℕ → ℕ → ℕ → Bool → Vertices → Vertices
push_bend sx sy ex ey along P =
    let turn = push_vertex (corner_x along sx ex) (corner_y along sy ey) Normal P in
    cond (bent (corner_x along sx ex) (corner_y along sy ey) sx sy ex ey) turn P

-- its start is a root start, also of a branch
unfoldable pub push_fallback_wire : ℕ → ℕ → ℕ → ℕ → Bool → Junction → Vertices → Vertices
push_fallback_wire sx sy ex ey along J P =
    push_vertex ex ey (WireEnd J) (push_bend sx sy ex ey along (push_vertex sx sy (WireStart true) P))

-- its ends are its first and its last vertex
unfoldable pub push_fallback : ℕ → ℕ → ℕ → ℕ → Bool → Junction → Wires → Wires
push_fallback sx sy ex ey along J W =
    let Q = push_fallback_wire sx sy ex ey along J W.page in
    wires Q (push_end ex ey (Q.n - 1) CORNER (push_end sx sy W.page.n CORNER W.net))

-- every end names one of n vertices
pub record Held (n : ℕ) (E : Ends) : Type 0 where
  pub held : (i : ℕ) → i < E.m → end_vertex E.rows i < n

-- ---- what safety asks

-- columns of these lengths have room for the vertices of a page
pub record Room (x y kinds : ℕ) : Type 0 where
  pub of_x : 512 ≤ x
  pub of_y : 512 ≤ y
  pub of_kinds : 512 ≤ kinds
