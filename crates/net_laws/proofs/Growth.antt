-- A wire in the making: a start, vertices and ends, and the wire's end.
use mathlib.Core.Path.{◌≡◌, refl}
use mathlib.Core.Bool.{Bool, false}
use mathlib.Core.Logic.{◌⊎◌, inl}
use Prim.Native.Nat.{ℕ, ◌+◌, ◌<◌, ◌≤◌}
use native.Mathlib.Omega.{arith}
use Rattle.vertex.specs.Kinds.{start, end, Junction}
use Rattle.vertex.specs.Pages.{Within}
use Rattle.vertex.specs.declared.VertexKind.{VertexKind}
use Rattle.vertex.specs.declared.VertexKind.TheVariants.{WireStart, WireEnd}
use Rattle.wire.specs.Ends.{CORNER, LINE}
use Rattle.wire.specs.Wires.{Wires, wires, push_vertex, push_end}
use Rattle.net_laws.specs.Laid.{In, Begun, Offered, Before, Long, Wire}
use Rattle.net_laws.proofs.Pages.{within-push, push-roomy, begin, go_on, finish}
use Rattle.net_laws.proofs.Offers.{push-length, before_same, before-push, offered-none, offered-wider, offered-push}

module _ (Spot : ℕ → ℕ → Type 0) (lo hi : ℕ) (range : (x y : ℕ) → Spot x y → In lo hi x y) (O : Wires) where
  -- a wire without its end so far
  pub record Growing (sx sy : ℕ) (W : Wires) : Type 0 where
    pub begun : Begun O.page W.page sx sy
    pub before : Before O.net W.net
    pub offered : Offered Spot O.page.n W.page.n O.net.m W.net
    pub long : Long W
    pub near_x : Within lo hi W.page.n W.page.x
    pub near_y : Within lo hi W.page.n W.page.y

  -- an end more, on the vertex v of the wire
  pub grow-end : {sx sy : ℕ} {W : Wires} (px py v k : ℕ) → Spot px py → O.page.n ≤ v → v < W.page.n → W.net.m < 4096 → (k ≡ CORNER) ⊎ (k ≡ LINE) → Growing sx sy W
      → Growing sx sy (wires W.page (push_end px py v k W.net))
  grow-end {sx} {sy} {W} px py v k s a b h c G =
      record {
        begun = G.begun;
        before = before-push px py v k O.net W.net G.before;
        offered = offered-push px py v k (omega (arith, G.long.net)) s a b c G.offered;
        long = record { page = G.long.page; net = rw (push-length px py v k W.net) G.long.net };
        near_x = G.near_x;
        near_y = G.near_y;
      }

  -- a vertex more
  pub grow-vertex : {sx sy : ℕ} {W : Wires} (px py : ℕ) (kind : VertexKind) → In lo hi px py → start kind ≡ false → end kind ≡ false → W.page.n < 512 → Growing sx sy W
      → Growing sx sy (wires (push_vertex px py kind W.page) W.net)
  unfolding push_vertex
  grow-vertex {sx} {sy} {W} px py kind i a b h G =
      let R = G.long.page in
      record {
        begun = go_on O.page W.page sx sy G.begun R h px py kind a b;
        before = G.before;
        offered = offered-wider (omega arith) G.offered;
        long = record { page = push-roomy px py kind W.page R; net = G.long.net };
        near_x = within-push W.page.x px (omega (arith, R.of_x)) i.x_low i.x_high G.near_x;
        near_y = within-push W.page.y py (omega (arith, R.of_y)) i.y_low i.y_high G.near_y;
      }

  -- the wire's end, which has an end on it
  pub grow_last : {sx sy : ℕ} {W : Wires} (px py : ℕ) (J : Junction) → Spot px py → W.page.n < 512 → W.net.m < 4096 → Growing sx sy W
      → Wire Spot lo hi O (wires (push_vertex px py (WireEnd J) W.page) (push_end px py W.page.n CORNER W.net)) sx sy px py J
  unfolding push_vertex
  grow_last {sx} {sy} {W} px py J s h g G =
      let R = G.long.page in
      let i = range px py s in
      let m = G.begun.more in
      record {
        laid = finish O.page W.page sx sy G.begun R h px py J;
        before = before-push px py W.page.n CORNER O.net W.net G.before;
        some = more W.page.n G.before.more;
        offered = offered-push px py W.page.n CORNER (omega (arith, G.long.net)) s (omega arith) (omega arith) (inl refl) (offered-wider (omega arith) G.offered);
        long = record { page = push-roomy px py (WireEnd J) W.page R; net = rw (push-length px py W.page.n CORNER W.net) G.long.net };
        near_x = within-push W.page.x px (omega (arith, R.of_x)) i.x_low i.x_high G.near_x;
        near_y = within-push W.page.y py (omega (arith, R.of_y)) i.y_low i.y_high G.near_y;
      }
    where
      more : (v : ℕ) → O.net.m ≤ W.net.m → O.net.m < (push_end px py v CORNER W.net).m
      more v l = unfold push_end in omega arith

  -- the start, which has an end on it
  pub grow-start : (sx sy : ℕ) (r : Bool) → Spot sx sy → O.page.n < 512 → O.net.m < 4096 → Long O → Within lo hi O.page.n O.page.x → Within lo hi O.page.n O.page.y
      → Growing sx sy (wires (push_vertex sx sy (WireStart r) O.page) (push_end sx sy O.page.n CORNER O.net))
  unfolding push_vertex
  grow-start sx sy r s h g long near_x near_y =
      let R = long.page in
      let i = range sx sy s in
      record {
        begun = begin O.page sx sy r R h;
        before = before-push sx sy O.page.n CORNER O.net O.net (before_same O.net);
        offered = offered-push sx sy O.page.n CORNER (omega (arith, long.net)) s (omega arith) (omega arith) (inl refl) (offered-none Spot O.page.n (O.page.n + 1) O.net);
        long = record { page = push-roomy sx sy (WireStart r) O.page R; net = rw (push-length sx sy O.page.n CORNER O.net) long.net };
        near_x = within-push O.page.x sx (omega (arith, R.of_x)) i.x_low i.x_high near_x;
        near_y = within-push O.page.y sy (omega (arith, R.of_y)) i.y_low i.y_high near_y;
      }
