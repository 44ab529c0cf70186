-- Of a tried wire: it keeps the limits of vertices and ends, and at 0 it has two vertices or more.
use mathlib.Core.Path.{◌≡◌, refl, sym}
use mathlib.Core.Bool.{Bool, true, false, cond}
use Prim.Native.Nat.{ℕ, zero, suc, ◌+◌, ◌-◌, ◌<◌, ◌≤◌}
use native.Mathlib.Omega.{arith}
use lib.Dec.{eqb, leb}
use borrow.Author.Tests.{leb-true, eqb-false}
use Rattle.fixed.proofs.Bools.{and_left, and_right}
use Rattle.vertex.specs.Kinds.{Junction}
use Rattle.wire.specs.Lines.{Line, straight}
use Rattle.wire.specs.Wires.{Wires, wires, Vertices, push_vertex, push_end, push_dummies, push_start, push_start_ends, push_corner, push_node, push_nodes, push_vertices, bent, corner_x, corner_y, push_bend, push_fallback_wire, push_fallback, line_vertices, line_ends, fallback_vertices}
use Rattle.wire.proofs.Pushes.{nodes-n, fallback-least}
use Rattle.routing.specs.Branches.{Tried, tried, Limited, fits, line_wire, fallback_wire, route_wire}

-- ---- how many vertices and ends a wire adds

pub line-n : (L : Line) (is_root : Bool) (J : Junction) (W : Wires) → (push_vertices L is_root J W).page.n ≡ W.page.n + line_vertices L
unfolding push_vertices push_start push_dummies push_vertex
line-n L is_root J W = omega (arith, nodes-n L J (L.count - 1) (wires (push_start L is_root W.page) (push_start_ends L W.page.n W.net)))

cond-m : (b : Bool) (X Y : Wires) (m : ℕ) → X.net.m ≡ m → Y.net.m ≡ m → (cond b X Y).net.m ≡ m
cond-m true X Y m x y = x
cond-m false X Y m x y = y

node-m : (L : Line) (J : Junction) (i : ℕ) (W : Wires) → (push_node L J i W).net.m ≡ W.net.m + 1
unfolding push_node push_corner push_end
node-m L J i W = cond-m (straight L.kinds L.ways i) _ _ _ refl refl

pub nodes-m : (L : Line) (J : Junction) (k : ℕ) (W : Wires) → (push_nodes L J k W).net.m ≡ W.net.m + k
unfolding push_nodes
nodes-m L J zero W = omega arith
nodes-m L J (suc k) W = omega (arith, node-m L J (suc k) (push_nodes L J k W), nodes-m L J k W)

pub line-m : (L : Line) (is_root : Bool) (J : Junction) (W : Wires) → 0 < L.count → (push_vertices L is_root J W).net.m ≡ W.net.m + line_ends L
unfolding push_vertices push_start_ends push_end
line-m L is_root J W h = omega (arith, nodes-m L J (L.count - 1) (wires (push_start L is_root W.page) (push_start_ends L W.page.n W.net)))

cond-n : (b : Bool) (X Y : Vertices) (n : ℕ) → X.n ≡ n + 2 → Y.n ≡ n + 1 → (cond b X Y).n + 1 ≡ n + cond b 3 2
cond-n true X Y n x y = omega arith
cond-n false X Y n x y = omega arith

pub fallback-n : (sx sy ex ey : ℕ) (along : Bool) (J : Junction) (W : Wires) → (push_fallback sx sy ex ey along J W).page.n ≡ W.page.n + fallback_vertices sx sy ex ey along
unfolding push_fallback push_fallback_wire push_bend push_vertex fallback_vertices
fallback-n sx sy ex ey along J W = cond-n (bent (corner_x along sx ex) (corner_y along sy ey) sx sy ex ey) _ _ _ (omega arith) refl

pub fallback-m : (sx sy ex ey : ℕ) (along : Bool) (J : Junction) (W : Wires) → (push_fallback sx sy ex ey along J W).net.m ≡ W.net.m + 2
unfolding push_fallback push_end
fallback-m sx sy ex ey along J W = omega arith

-- ---- a tried wire

module _ (W : Wires) (n-le : W.page.n ≤ 512) (m-le : W.net.m ≤ 4096) where
  refused : (k : ℕ) → (k ≡ 0 → ⊥) → Limited W (tried k W)
  refused k h = record { vertices_most = n-le; ends_most = m-le; two_more = λ e. absurd (h e); as_before = λ e. refl }

  fitted : (v e : ℕ) (X : Wires) → X.page.n ≡ W.page.n + v → X.net.m ≡ W.net.m + e → 2 ≤ v → (b : Bool) → b ≡ fits W.page.n v W.net.m e
      → Limited W (cond b (tried 0 X) (tried 15 W))
  unfolding fits
  fitted v e X xn xm two true q =
      let a = leb-true (W.page.n + v) 512 (and_left (leb (W.page.n + v) 512) (leb (W.net.m + e) 4096) (sym q)) in
      let d = leb-true (W.net.m + e) 4096 (and_right (leb (W.page.n + v) 512) (leb (W.net.m + e) 4096) (sym q)) in
      record { vertices_most = omega arith; ends_most = omega arith; two_more = λ z. omega arith; as_before = λ h. absurd (h refl) }
  fitted v e X xn xm two false q = refused 15 (λ h. omega arith)

  line-limited : (L : Line) (is_root : Bool) (J : Junction) → 0 < L.count → Limited W (line_wire L is_root J W)
  unfolding line_wire
  line-limited L is_root J h = by (eqb L.count 1)
    where
      by : (b : Bool) → Limited W (cond b (tried 14 W) (cond (fits W.page.n (line_vertices L) W.net.m (line_ends L)) (tried 0 (push_vertices L is_root J W)) (tried 15 W)))
      by true = refused 14 (λ e. omega arith)
      by false = fitted _ _ _ (line-n L is_root J W) (line-m L is_root J W h) (omega arith) _ refl

  fallback-limited : (sx sy ex ey : ℕ) (along : Bool) (J : Junction) → Limited W (fallback_wire sx sy ex ey along J W)
  unfolding fallback_wire
  fallback-limited sx sy ex ey along J =
      fitted _ _ _ (fallback-n sx sy ex ey along J W) (fallback-m sx sy ex ey along J W) (fallback-least sx sy ex ey along).0 _ refl

  pub limited : (L : Line) (sx sy ex ey : ℕ) (along is_root : Bool) (J : Junction) → Limited W (route_wire L sx sy ex ey along is_root J W)
  unfolding route_wire
  limited L sx sy ex ey along is_root J = by (eqb L.count 0) refl
    where
      by : (b : Bool) → eqb L.count 0 ≡ b → Limited W (cond b (fallback_wire sx sy ex ey along J W) (line_wire L is_root J W))
      by true e = fallback-limited sx sy ex ey along J
      by false e = line-limited L is_root J (some L.count (eqb-false _ _ e))
        where
          some : (k : ℕ) → (k ≡ 0 → ⊥) → 0 < k
          some k h = omega arith

-- the last vertex of a wire that was made
pub made : (L : Line) (sx sy ex ey : ℕ) (along is_root : Bool) (J : Junction) (W : Wires) (T : Tried) → T ≡ route_wire L sx sy ex ey along is_root J W → W.page.n ≤ 512 → W.net.m ≤ 4096
    → T.number ≡ 0 → (0 < T.wires.page.n) × (T.wires.page.n ≤ 512)
made L sx sy ex ey along is_root J W T t n-le m-le z =
    let k : Limited W T = rw t (limited W n-le m-le L sx sy ex ey along is_root J) in
    (omega (arith, k.two_more z), k.vertices_most)
