-- Routing a net leaves the vertices and junctions of earlier nets as they were, so that wiping behind them undoes it.
use mathlib.Core.Path.{◌≡◌, refl, ◌∙◌}
use mathlib.Core.Bool.{Bool, true, false, cond, not, ◌||◌}
use mathlib.Core.List.{List}
use Prim.Native.Nat.{ℕ, zero, suc, ◌+◌, ◌-◌, ◌*◌, ◌≤◌}
use native.Mathlib.Omega.{arith}
use lib.Dec.{eqb}
use lib.ListN.{length, get_or, take, set, length-set}
use lib.Seq.{take-set-le}
use Rattle.fixed.specs.Up.{BIAS}
use Rattle.zeros.specs.Zeros.{closed}
use Rattle.nodes.specs.Graph.{Graph}
use Rattle.vertex.specs.Kinds.{Junction}
use Rattle.vertex.specs.declared.VertexKind.{VertexKind}
use Rattle.wire.specs.Ends.{end_vertex, end_kind}
use Rattle.wire.specs.Lines.{Line, straight}
use Rattle.wire.specs.Wires.{Vertices, vertices, Wires, wires, push_vertex, push_dummies, push_start, push_corner, push_node, push_nodes, push_vertices, bent, corner_x, corner_y, push_bend, push_fallback_wire, push_fallback, line_vertices, line_ends, fallback_vertices}
use Rattle.routing.specs.Branches.{Tried, tried, fits, line_wire, fallback_wire, route_wire, joined_end, route_branch, put_junction, join_branch}
use Rattle.net.specs.Nets.{Branched, along, root_wire, branch_line, branch_from, branch_at, branches_to, refused, no_ends, route_net, root_from, root_to}

-- the vertices of P stand in Q as they did
pub record Kept (P Q : Vertices) : Type 0 where
  pub x_same : take P.n Q.x ≡ take P.n P.x
  pub y_same : take P.n Q.y ≡ take P.n P.y
  pub kinds_same : take P.n Q.kinds ≡ take P.n P.kinds
  pub x_long : length Q.x ≡ length P.x
  pub y_long : length Q.y ≡ length P.y
  pub kinds_long : length Q.kinds ≡ length P.kinds
  pub on : P.n ≤ Q.n

pub kept_self : (P : Vertices) → Kept P P
kept_self P = record { x_same = refl; y_same = refl; kinds_same = refl; x_long = refl; y_long = refl; kinds_long = refl; on = omega arith }

module _ (P : Vertices) where
  push : (px py : ℕ) (kind : VertexKind) (Q : Vertices) → Kept P Q → Kept P (push_vertex px py kind Q)
  unfolding push_vertex
  push px py kind Q K =
      record {
        x_same = take-set-le P.n Q.x Q.n _ K.on ∙ K.x_same;
        y_same = take-set-le P.n Q.y Q.n _ K.on ∙ K.y_same;
        kinds_same = take-set-le P.n Q.kinds Q.n _ K.on ∙ K.kinds_same;
        x_long = length-set Q.x Q.n _ ∙ K.x_long;
        y_long = length-set Q.y Q.n _ ∙ K.y_long;
        kinds_long = length-set Q.kinds Q.n _ ∙ K.kinds_long;
        on = omega (arith, K.on);
      }

  start : (L : Line) (is_root : Bool) (Q : Vertices) → Kept P Q → Kept P (push_start L is_root Q)
  unfolding push_start push_dummies
  start L is_root Q K = push _ _ _ _ (push _ _ _ _ (push _ _ _ _ K))

  either-v : (b : Bool) (X Y : Vertices) → Kept P X → Kept P Y → Kept P (cond b X Y)
  either-v true X Y x y = x
  either-v false X Y x y = y

  either-w : (b : Bool) (X Y : Wires) → Kept P X.page → Kept P Y.page → Kept P (cond b X Y).page
  either-w true X Y x y = x
  either-w false X Y x y = y

  either-t : (b : Bool) (X Y : Tried) → Kept P X.wires.page → Kept P Y.wires.page → Kept P (cond b X Y).wires.page
  either-t true X Y x y = x
  either-t false X Y x y = y

  node : (L : Line) (J : Junction) (i : ℕ) (W : Wires) → Kept P W.page → Kept P (push_node L J i W).page
  unfolding push_node push_corner
  node L J i W K = either-w (straight L.kinds L.ways i) _ _ K (push _ _ _ _ K)

  nodes : (L : Line) (J : Junction) (k : ℕ) (W : Wires) → Kept P W.page → Kept P (push_nodes L J k W).page
  unfolding push_nodes
  nodes L J zero W K = K
  nodes L J (suc k) W K = node L J (suc k) (push_nodes L J k W) (nodes L J k W K)

  wire : (L : Line) (is_root : Bool) (J : Junction) (W : Wires) → Kept P W.page → Kept P (push_vertices L is_root J W).page
  unfolding push_vertices
  wire L is_root J W K = nodes L J (L.count - 1) _ (start L is_root W.page K)

  fallback : (sx sy ex ey : ℕ) (ahead : Bool) (J : Junction) (W : Wires) → Kept P W.page → Kept P (push_fallback sx sy ex ey ahead J W).page
  unfolding push_fallback push_fallback_wire push_bend
  fallback sx sy ex ey ahead J W K =
      push _ _ _ _ (either-v (bent (corner_x ahead sx ex) (corner_y ahead sy ey) sx sy ex ey) _ _ (push _ _ _ _ (push _ _ _ _ K)) (push _ _ _ _ K))

  pub routed : (L : Line) (sx sy ex ey : ℕ) (ahead is_root : Bool) (J : Junction) (W : Wires) → Kept P W.page → Kept P (route_wire L sx sy ex ey ahead is_root J W).wires.page
  unfolding route_wire line_wire fallback_wire
  routed L sx sy ex ey ahead is_root J W K =
      either-t (eqb L.count 0) _ _ (either-t (fits W.page.n (fallback_vertices sx sy ex ey ahead) W.net.m 2) (tried 0 (push_fallback sx sy ex ey ahead J W)) (tried 15 W) (fallback sx sy ex ey ahead J W K) K)
      (either-t (eqb L.count 1) (tried 14 W) _ K (either-t (fits W.page.n (line_vertices L) W.net.m (line_ends L)) (tried 0 (push_vertices L is_root J W)) (tried 15 W) (wire L is_root J W K) K))

-- the same of a page's junctions
pub record Joins (R : List ℕ) (j : ℕ) (R' : List ℕ) (j' : ℕ) : Type 0 where
  pub same : take (3 * j) R' ≡ take (3 * j) R
  pub long : length R' ≡ length R
  pub on : j ≤ j'

row : (R : List ℕ) (j : ℕ) (R' : List ℕ) (j' v e k : ℕ) → Joins R j R' j' → Joins R j (put_junction R' j' v e k) (j' + 1)
unfolding put_junction
row R j R' j' v e k K =
    record {
      same = take-set-le (3 * j) (set (set R' (3 * j') v) (3 * j' + 1) e) (3 * j' + 2) k (omega (arith, K.on)) ∙ take-set-le (3 * j) (set R' (3 * j') v) (3 * j' + 1) e (omega (arith, K.on)) ∙ take-set-le (3 * j) R' (3 * j') v (omega (arith, K.on)) ∙ K.same;
      long = length-set (set (set R' (3 * j') v) (3 * j' + 1) e) (3 * j' + 2) k ∙ length-set (set R' (3 * j') v) (3 * j' + 1) e ∙ length-set R' (3 * j') v ∙ K.long;
      on = omega (arith, K.on);
    }

-- both, of what is made of a net
pub record Still (P : Vertices) (R : List ℕ) (j : ℕ) (S : Branched) : Type 0 where
  pub page : Kept P S.wires.page
  pub joins : Joins R j S.joins S.j

module _ (P : Vertices) (R : List ℕ) (j : ℕ) where
  joined : (L : Line) (x y : ℕ) (ahead : Bool) (S : Branched) → Joins R j S.joins S.j
      → Joins R j (join_branch L x y ahead S.wires S.joins S.j) (cond (eqb (route_branch L x y ahead S.wires).number 0) (S.j + 1) S.j)
  unfolding join_branch
  joined L x y ahead S K = by (eqb (route_branch L x y ahead S.wires).number 0)
    where
      by : (b : Bool) → Joins R j (cond b (put_junction S.joins S.j (end_vertex S.wires.net.rows (joined_end L x y S.wires.net)) ((route_branch L x y ahead S.wires).wires.page.n - 1) (end_kind S.wires.net.rows (joined_end L x y S.wires.net))) S.joins) (cond b (S.j + 1) S.j)
      by true = row R j S.joins S.j _ _ _ K
      by false = K

  branch : (L : Line) (x y : ℕ) (ahead : Bool) (W : Wires) → Kept P W.page → Kept P (route_branch L x y ahead W).wires.page
  unfolding route_branch
  branch L x y ahead W K = routed P L x y _ _ ahead false _ W K

  from : (G : Graph) (x y : ℕ) (S : Branched) → Still P R j S → Still P R j (branch_from G x y S)
  unfolding branch_from
  from G x y S K =
      record { page = branch (branch_line G x y S.wires.net) x y (along G x y) S.wires K.page; joins = joined (branch_line G x y S.wires.net) x y (along G x y) S K.joins }

  at : (G : Graph) (px py : List ℕ) (a b i : ℕ) (S : Branched) → Still P R j S → Still P R j (branch_at G px py a b i S)
  unfolding branch_at
  at G px py a b i S K = by (not (eqb S.number 0) || (eqb i a || eqb i b)) (from G (get_or px i 0) (get_or py i 0) S K)
    where
      by : (t : Bool) → Still P R j (branch_from G (get_or px i 0) (get_or py i 0) S) → Still P R j (cond t S (branch_from G (get_or px i 0) (get_or py i 0) S))
      by true h = K
      by false h = h

  all : (G : Graph) (px py : List ℕ) (a b k : ℕ) (S : Branched) → Still P R j S → Still P R j (branches_to G px py a b k S)
  unfolding branches_to
  all G px py a b zero S K = K
  all G px py a b (suc k) S K = at G px py a b k (branches_to G px py a b k S) (all G px py a b k S K)

  root : (G : Graph) (px py : List ℕ) (a b : ℕ) (W : Wires) → Kept P W.page → Kept P (root_wire G px py a b W).wires.page
  unfolding root_wire
  root G px py a b W K = routed P _ _ _ _ _ _ true _ W K

  pub net-still : (G : Graph) (px py : List ℕ) → Still P R j (route_net G px py P R j)
  unfolding route_net
  net-still G px py =
      all G px py (root_from px py) (root_to px py) (length px) _ (record { page = root G px py (root_from px py) (root_to px py) (wires P no_ends) (kept_self P); joins = record { same = refl; long = refl; on = omega arith } })

-- wiping behind what was kept
pub closed_same : (z n : ℕ) (l m : List ℕ) → take n m ≡ take n l → length m ≡ length l → closed z n m ≡ closed z n l
unfolding closed
closed_same z n l m e h = rw (e, h)

pub wiped : (num : ℕ) (P : Vertices) (R : List ℕ) (j : ℕ) (S : Branched) → Still P R j S
    → refused num (vertices S.wires.page.x S.wires.page.y S.wires.page.kinds P.n) S.joins j ≡ refused num P R j
unfolding refused
wiped num P R j S K =
    rw (closed_same BIAS P.n P.x _ K.page.x_same K.page.x_long, closed_same BIAS P.n P.y _ K.page.y_same K.page.y_long, closed_same 0 P.n P.kinds _ K.page.kinds_same K.page.kinds_long, closed_same 0 (3 * j) R _ K.joins.same K.joins.long)
