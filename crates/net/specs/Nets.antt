-- 01, 'Nets' (`connect_net`) and 'Numbers handed back' 12 to 15: one net on a built graph. G is the graph; px and py are the columns of the net's endpoints.
-- The page's vertices and junctions hold those of earlier nets too, and all indices are the page's.
use Rattle.std.specs.Prelude.{Bool, true, ◌||◌, not, cond, List, [], ◌∷◌, ℕ, zero, suc, ◌+◌, ◌*◌, ◌/◌, ◌%◌, eqb, ltb, length, get_or, replicate, None}
use Rattle.fixed.specs.Up.{BIAS}
use Rattle.nodes.specs.Graph.{Graph, seek}
use Rattle.path_finding.specs.Line.{table}
use Rattle.path_finding.specs.Places.{known, line_between}
use Rattle.zeros.specs.Zeros.{closed}
use Rattle.wire.specs.Lines.{Line, line_of}
use Rattle.wire.specs.Wires.{Vertices, vertices, Ends, ends, Wires, wires}
use Rattle.routing.specs.Roots.{root_pair}
use Rattle.routing.specs.Branches.{Tried, route_wire, route_branch, join_branch}

-- ---- lines

-- the line from (x, y) to one of the ends
unfoldable pub found_line : Graph → ℕ → ℕ → List ℕ → List ℕ → Line
found_line G x y exs eys = line_of G (line_between G x y exs eys)

-- whether the node s has an X direction: a mark is the sum of its directions, 1 and 2 are those of x
unfoldable pub along_at : List ℕ → ℕ → Bool
along_at marks s = not (eqb (get_or marks s 0 % 4) 0)

-- the same of the node at (x, y)
unfoldable pub along : Graph → ℕ → ℕ → Bool
along G x y = along_at G.marks (seek G.xs G.ys G.count x y)

-- ---- the root wire, `route_root_wire`

abbrev pub root_from : List ℕ → List ℕ → ℕ
root_from px py = root_pair px py (length px) / length px

abbrev pub root_to : List ℕ → List ℕ → ℕ
root_to px py = root_pair px py (length px) % length px

-- the root wire from (sx, sy) to (ex, ey)
abbrev pub root_wire_from : Graph → ℕ → ℕ → ℕ → ℕ → Wires → Tried
root_wire_from G sx sy ex ey W =
    route_wire (found_line G sx sy (ex ∷ []) (ey ∷ [])) sx sy ex ey (along G sx sy) true None W

-- the root wire from endpoint a to endpoint b
unfoldable pub root_wire : Graph → List ℕ → List ℕ → ℕ → ℕ → Wires → Tried
root_wire G px py a b W =
    root_wire_from G (get_or px a 0) (get_or py a 0) (get_or px b 0) (get_or py b 0) W

-- ---- the branches, `route_branch_wires`

-- what is made so far: the number, 0 unless a wire was refused; vertices and ends; junction rows and how many
pub record Branched : Type 0 where
  pub number : ℕ
  pub wires : Wires
  pub joins : List ℕ
  pub j : ℕ

abbrev pub branched : ℕ → Wires → List ℕ → ℕ → Branched
branched number wires joins j = record { number = number; wires = wires; joins = joins; j = j }

-- a word of the row i of a net's ends: 0 is x, 1 is y
unfoldable pub end_word : ℕ → List ℕ → ℕ → ℕ
end_word w E i = get_or E (4 * i + w) 0

-- the line from (x, y) to one of the ends of the net so far, and its nodes
unfoldable pub branch_line : Graph → ℕ → ℕ → Ends → Line
branch_line G x y E = found_line G x y (table (end_word 0 E.rows) E.m) (table (end_word 1 E.rows) E.m)

abbrev pub branch_path : Graph → ℕ → ℕ → Ends → List ℕ
branch_path G x y E = line_between G x y (table (end_word 0 E.rows) E.m) (table (end_word 1 E.rows) E.m)

-- the branch from (x, y)
unfoldable pub branch_from : Graph → ℕ → ℕ → Branched → Branched
branch_from G x y S =
    let L = branch_line G x y S.wires.net in
    let T = route_branch L x y (along G x y) S.wires in
    branched T.number T.wires (join_branch L x y (along G x y) S.wires S.joins S.j) (cond (eqb T.number 0) (S.j + 1) S.j)

-- the endpoint i: the root pair a and b has its wire, and nothing follows a refusal
unfoldable pub branch_at : Graph → List ℕ → List ℕ → ℕ → ℕ → ℕ → Branched → Branched
branch_at G px py a b i S =
    let made = branch_from G (get_or px i 0) (get_or py i 0) S in
    cond (not (eqb S.number 0) || (eqb i a || eqb i b)) S made

-- the first k endpoints
unfoldable pub branches_to : Graph → List ℕ → List ℕ → ℕ → ℕ → ℕ → Branched → Branched
branches_to G px py a b zero S = S
branches_to G px py a b (suc k) S = branch_at G px py a b k (branches_to G px py a b k S)

-- ---- the net, `connect_net`

-- the number, and the page's vertices and junctions then
pub record Net : Type 0 where
  pub number : ℕ
  pub page : Vertices
  pub joins : List ℕ
  pub j : ℕ

abbrev pub net : ℕ → Vertices → List ℕ → ℕ → Net
net number page joins j = record { number = number; page = page; joins = joins; j = j }

-- 'net has no vertex or junction': the page as it was, zeros behind (the coordinate 0 is BIAS steps above −2^31)
unfoldable pub refused : ℕ → Vertices → List ℕ → ℕ → Net
refused number P R j =
    net number (vertices (closed BIAS P.n P.x) (closed BIAS P.n P.y) (closed 0 P.n P.kinds) P.n) (closed 0 (3 * j) R) j

-- the words of a net's ends: 4,096 rows, no end yet
abbrev pub END_WORDS : ℕ
END_WORDS = 16384

unfoldable pub no_ends : Ends
no_ends = ends (replicate END_WORDS 0) 0

-- root wire and branches
unfoldable pub route_net : Graph → List ℕ → List ℕ → Vertices → List ℕ → ℕ → Branched
route_net G px py P R j =
    let a = root_from px py in
    let b = root_to px py in
    let T = root_wire G px py a b (wires P no_ends) in
    branches_to G px py a b (length px) (branched T.number T.wires R j)

-- all of it, or nothing of it
unfoldable pub kept : Branched → Vertices → List ℕ → ℕ → Net
kept S P R j = cond (eqb S.number 0) (net 0 S.wires.page S.joins S.j) (refused S.number P R j)

-- 12 under two endpoints; 13 if any of them is no node; then 14 and 15 endpoint by endpoint, the root pair first
unfoldable pub connect_net : Graph → List ℕ → List ℕ → Vertices → List ℕ → ℕ → Net
connect_net G px py P R j =
    let routed = kept (route_net G px py P R j) P R j in
    cond (ltb (length px) 2) (refused 12 P R j)
    (cond (known G.xs G.ys G.count px py (length px)) routed (refused 13 P R j))
