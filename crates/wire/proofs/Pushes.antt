-- What the code has after its stores is what the definitions add.
use mathlib.Core.Path.{◌≡◌, refl, ap}
use mathlib.Core.Bool.{Bool, true, false, cond}
use Prim.Native.Nat.{ℕ, zero, suc, ◌+◌, ◌-◌, ◌<◌, ◌≤◌}
use native.Mathlib.Omega.{arith}
use lib.Dec.{eqb}
use lib.ListN.{get_or}
use borrow.Author.Tests.{eq-eqb, ne_eqb}
use Rattle.fixed.specs.Steps.{dummy}
use Rattle.vertex.specs.Kinds.{Junction}
use Rattle.vertex.specs.declared.VertexKind.{VertexKind}
use Rattle.vertex.specs.declared.VertexKind.TheVariants.{WireStart, Dummy, Normal, WireEnd}
use Rattle.wire.specs.Ends.{CORNER, LINE}
use Rattle.wire.specs.Lines.{Line, straight, kept}
use Rattle.wire.specs.Wires.{Vertices, Wires, wires, push_vertex, push_end, push_dummies, push_start, push_start_ends, corner_kind, push_corner, push_node, push_nodes, push_vertices, bent, corner_x, corner_y, fallback_vertices, push_bend, push_fallback_wire, push_fallback}

-- from W over X to Y
module _ (W X Y : Wires) where
  pub dummies-pushed : (L : Line) (dx dy : ℕ) → dx ≡ dummy (get_or L.x 0 0) (get_or L.x 1 0) → dy ≡ dummy (get_or L.y 0 0) (get_or L.y 1 0)
      → X ≡ wires (push_vertex dx dy Dummy W.page) W.net → Y ≡ wires (push_vertex dx dy Dummy X.page) X.net → Y ≡ wires (push_dummies L W.page) W.net
  unfolding push_dummies
  dummies-pushed L dx dy a b p q = rw (← a, ← b) (rw p at q)

  pub start-pushed : (L : Line) (is_root : Bool) (px py : ℕ) → px ≡ get_or L.x 0 0 → py ≡ get_or L.y 0 0
      → X ≡ wires (push_vertex px py (WireStart is_root) W.page) W.net → Y ≡ wires (push_dummies L X.page) X.net → Y ≡ wires (push_start L is_root W.page) W.net
  unfolding push_start
  start-pushed L is_root px py a b p q = rw (← a, ← b) (rw p at q)

  pub start-ends-pushed : (L : Line) (v px py : ℕ) → px ≡ get_or L.x 0 0 → py ≡ get_or L.y 0 0
      → X ≡ wires W.page (push_end px py v CORNER W.net) → Y ≡ wires X.page (push_end px py (v + 2) CORNER X.net) → Y ≡ wires W.page (push_start_ends L v W.net)
  unfolding push_start_ends
  start-ends-pushed L v px py a b p q = rw (← a, ← b) (rw p at q)

  pub corner-pushed : (px py : ℕ) (kind : VertexKind) → X ≡ wires W.page (push_end px py W.page.n CORNER W.net) → Y ≡ wires (push_vertex px py kind X.page) X.net
      → Y ≡ push_corner px py kind W
  unfolding push_corner
  corner-pushed px py kind p q = rw p at q

-- how many there are then
pub vertex-n : (W X : Wires) (px py : ℕ) (kind : VertexKind) → X ≡ wires (push_vertex px py kind W.page) W.net → X.page.n ≡ W.page.n + 1
unfolding push_vertex
vertex-n W X px py kind p = ap (λ (V : Wires). V.page.n) p

pub end-n : (W X : Wires) (px py v kind : ℕ) → X ≡ wires W.page (push_end px py v kind W.net) → X.page.n ≡ W.page.n
end-n W X px py v kind p = ap (λ (V : Wires). V.page.n) p

pub net-m : (W X : Wires) (P : Vertices) → X ≡ wires P W.net → X.net.m ≡ W.net.m
net-m W X P p = ap (λ (V : Wires). V.net.m) p

pub end-m : (W X : Wires) (px py v kind : ℕ) → X ≡ wires W.page (push_end px py v kind W.net) → X.net.m ≡ W.net.m + 1
unfolding push_end
end-m W X px py v kind p = ap (λ (V : Wires). V.net.m) p

module _ (L : Line) (J : Junction) (i : ℕ) (W : Wires) (px py : ℕ) (ex : px ≡ get_or L.x i 0) (ey : py ≡ get_or L.y i 0) (b : Bool) (eb : b ≡ straight L.kinds L.ways i) where
  pub node-straight : {X : Wires} → b ≡ true → X ≡ wires W.page (push_end px py (W.page.n - 1) LINE W.net) → X ≡ push_node L J i W
  unfolding push_node
  node-straight t e = rw (← ex, ← ey, ← eb, t) e

  pub node-corner : (X : Wires) (k : VertexKind) → b ≡ false → k ≡ corner_kind (eqb (i + 1) L.count) J → X ≡ push_corner px py k W → X ≡ push_node L J i W
  unfolding push_node
  node-corner X k t ek e = rw (← ex, ← ey, ← eb, t, ← ek) e

-- whether the node i is the last one decides what its corner becomes
pub corner-last : (i n : ℕ) (J : Junction) → i + 1 ≡ n → WireEnd J ≡ corner_kind (eqb (i + 1) n) J
unfolding corner_kind
corner-last i n J e = rw (eq-eqb (i + 1) n e)

pub corner-inner : (i n : ℕ) (J : Junction) → (i + 1 ≡ n → ⊥) → Normal ≡ corner_kind (eqb (i + 1) n) J
unfolding corner_kind
corner-inner i n J e = rw (ne_eqb (i + 1) n e)

-- ---- the nodes of a line

node-n : (L : Line) (J : Junction) (i : ℕ) (W : Wires) → (push_node L J i W).page.n ≡ cond (straight L.kinds L.ways i) W.page.n (W.page.n + 1)
unfolding push_node push_corner push_vertex
node-n L J i W = by (straight L.kinds L.ways i)
  where
    by : (b : Bool) → (cond b (wires W.page (push_end (get_or L.x i 0) (get_or L.y i 0) (W.page.n - 1) LINE W.net)) (push_corner (get_or L.x i 0) (get_or L.y i 0) (corner_kind (eqb (i + 1) L.count) J) W)).page.n ≡ cond b W.page.n (W.page.n + 1)
    by true = refl
    by false = refl

node-m : (L : Line) (J : Junction) (i : ℕ) (W : Wires) → (push_node L J i W).net.m ≡ W.net.m + 1
unfolding push_node push_corner push_end
node-m L J i W = by (straight L.kinds L.ways i)
  where
    by : (b : Bool) → (cond b (wires W.page (push_end (get_or L.x i 0) (get_or L.y i 0) (W.page.n - 1) LINE W.net)) (push_corner (get_or L.x i 0) (get_or L.y i 0) (corner_kind (eqb (i + 1) L.count) J) W)).net.m ≡ W.net.m + 1
    by true = refl
    by false = refl

pub nodes-n : (L : Line) (J : Junction) (k : ℕ) (W : Wires) → (push_nodes L J k W).page.n ≡ W.page.n + kept L.kinds L.ways k
unfolding push_nodes kept
nodes-n L J zero W = omega arith
nodes-n L J (suc k) W = rw node-n (by (straight L.kinds L.ways (suc k)) _ _ _ (nodes-n L J k W))
  where
    by : (b : Bool) (a d n : ℕ) → a ≡ n + d → cond b a (a + 1) ≡ n + cond b d (d + 1)
    by true a d n e = e
    by false a d n e = omega arith

pub nodes-total : (L : Line) (J : Junction) (k : ℕ) (W X : Wires) → X ≡ push_nodes L J k W → X.page.n ≡ W.page.n + kept L.kinds L.ways k
nodes-total L J k W X e = rw e (nodes-n L J k W)

pub nodes-none : (L : Line) (J : Junction) (W : Wires) → W ≡ push_nodes L J (1 - 1) W
unfolding push_nodes
nodes-none L J W = refl

pub nodes-more : (L : Line) (J : Junction) (i : ℕ) (W X Y : Wires) → 0 < i → X ≡ push_nodes L J (i - 1) W → Y ≡ push_node L J i X → Y ≡ push_nodes L J (i + 1 - 1) W
unfolding push_nodes
nodes-more L J i W X Y h p q =
    let a : i + 1 - 1 ≡ suc (i - 1) = omega arith in
    let b : suc (i - 1) ≡ i = omega arith in
    rw (a, b, ← p) q

pub line-pushed : (L : Line) (is_root : Bool) (J : Junction) (W X Y Z : Wires) → X ≡ wires (push_start L is_root W.page) W.net → Y ≡ wires X.page (push_start_ends L W.page.n X.net)
    → Z ≡ push_nodes L J (L.count - 1) Y → Z ≡ push_vertices L is_root J W
unfolding push_vertices
line-pushed L is_root J W X Y Z p q r = rw (rw p at q) at r

-- a line's start, and its nodes
pub start-n : (L : Line) (is_root : Bool) (W X : Wires) → X ≡ wires (push_start L is_root W.page) W.net → X.page.n ≡ W.page.n + 3
unfolding push_start push_dummies push_vertex
start-n L is_root W X p = let e = ap (λ (V : Wires). V.page.n) p in omega (arith, e)

pub start-m : (L : Line) (is_root : Bool) (W X : Wires) → X ≡ wires (push_start L is_root W.page) W.net → X.net.m ≡ W.net.m
start-m L is_root W X p = ap (λ (V : Wires). V.net.m) p

pub start-ends-n : (L : Line) (v : ℕ) (W X : Wires) → X ≡ wires W.page (push_start_ends L v W.net) → X.page.n ≡ W.page.n
start-ends-n L v W X p = ap (λ (V : Wires). V.page.n) p

pub start-ends-m : (L : Line) (v : ℕ) (W X : Wires) → X ≡ wires W.page (push_start_ends L v W.net) → X.net.m ≡ W.net.m + 2
unfolding push_start_ends push_end
start-ends-m L v W X p = let e = ap (λ (V : Wires). V.net.m) p in omega (arith, e)

nodes-m : (L : Line) (J : Junction) (k : ℕ) (W : Wires) → (push_nodes L J k W).net.m ≡ W.net.m + k
unfolding push_nodes
nodes-m L J zero W = omega arith
nodes-m L J (suc k) W = rw node-m (omega (arith, nodes-m L J k W))

pub nodes-total-m : (L : Line) (J : Junction) (k : ℕ) (W X : Wires) → X ≡ push_nodes L J k W → X.net.m ≡ W.net.m + k
nodes-total-m L J k W X e = rw e (nodes-m L J k W)

-- ---- fallbacks

module _ (sx sy ex ey : ℕ) (along : Bool) (cx cy : ℕ) (a : cx ≡ corner_x along sx ex) (b : cy ≡ corner_y along sy ey) (t : Bool) (e : t ≡ bent cx cy sx sy ex ey) where
  pub three : t ≡ true → 3 ≡ fallback_vertices sx sy ex ey along
  unfolding fallback_vertices
  three h = rw (← a, ← b, ← e, h)

  pub two : t ≡ false → 2 ≡ fallback_vertices sx sy ex ey along
  unfolding fallback_vertices
  two h = rw (← a, ← b, ← e, h)

  pub bend-pushed : (W X : Wires) → t ≡ true → X ≡ wires (push_vertex cx cy Normal W.page) W.net → X ≡ wires (push_bend sx sy ex ey along W.page) W.net
  unfolding push_bend
  bend-pushed W X h q = rw (← a, ← b, ← e, h) q

  pub no-bend : (W : Wires) → t ≡ false → W ≡ wires (push_bend sx sy ex ey along W.page) W.net
  unfolding push_bend
  no-bend W h = rw (← a, ← b, ← e, h)

pub fallback-least : (sx sy ex ey : ℕ) (along : Bool) → (2 ≤ fallback_vertices sx sy ex ey along) × (fallback_vertices sx sy ex ey along ≤ 3)
unfolding fallback_vertices
fallback-least sx sy ex ey along = by (bent (corner_x along sx ex) (corner_y along sy ey) sx sy ex ey)
  where
    by : (b : Bool) → (2 ≤ cond b 3 2) × (cond b 3 2 ≤ 3)
    by true = (omega arith, omega arith)
    by false = (omega arith, omega arith)

pub fallback-wire-pushed : (sx sy ex ey : ℕ) (along : Bool) (J : Junction) (W X Y Z : Wires) → X ≡ wires (push_vertex sx sy (WireStart true) W.page) W.net
    → Y ≡ wires (push_bend sx sy ex ey along X.page) X.net → Z ≡ wires (push_vertex ex ey (WireEnd J) Y.page) Y.net → Z ≡ wires (push_fallback_wire sx sy ex ey along J W.page) W.net
unfolding push_fallback_wire
fallback-wire-pushed sx sy ex ey along J W X Y Z p q r = rw (rw p at q) at r

pub fallback-pushed : (sx sy ex ey : ℕ) (along : Bool) (J : Junction) (W X Y Z : Wires) → X ≡ wires (push_fallback_wire sx sy ex ey along J W.page) W.net
    → Y ≡ wires X.page (push_end sx sy W.page.n CORNER X.net) → Z ≡ wires Y.page (push_end ex ey (Y.page.n - 1) CORNER Y.net) → Z ≡ push_fallback sx sy ex ey along J W
unfolding push_fallback
fallback-pushed sx sy ex ey along J W X Y Z p q r = rw (rw p at q) at r
