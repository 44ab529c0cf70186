-- Vertices that stay, at the places of endpoints: they are kept while wires are added, and each wire has one at its start.
use mathlib.Core.Path.{◌≡◌, ap, ◌∙◌}
use mathlib.Core.Bool.{true}
use Prim.Native.Nat.{ℕ, ◌-◌, ◌<◌, ◌≤◌}
use native.Mathlib.Omega.{arith}
use Rattle.vertex.specs.Kinds.{kind_of, start, Junction}
use Rattle.vertex.specs.Pages.{kind_at}
use Rattle.std.specs.Prelude.{None}
use Rattle.vertex.specs.declared.VertexKind.{VertexKind}
use Rattle.fixup.specs.Promises.{still}
use Rattle.wire.specs.Wires.{Vertices}
use Rattle.net_laws.specs.Laid.{Kept, Laid}
use Rattle.page_laws.specs.Connected.{Touched}

pub touched-kept : {a b n px py : ℕ} (P Q : Vertices) → b ≤ n → Kept n P Q → Touched a b P px py → Touched a b Q px py
touched-kept {n = n} P Q h K T =
    let v = T.vertex in
    let l : v < n = omega (arith, T.to) in
    record {
      vertex = v;
      from = T.from;
      to = T.to;
      stays = ap (λ (u : ℕ). still (kind_of u)) (K.kind_kept v l) ∙ T.stays;
      at_x = K.x_kept v l ∙ T.at_x;
      at_y = K.y_kept v l ∙ T.at_y;
    }

touched-wider : {a b c px py : ℕ} (P : Vertices) → b ≤ c → Touched a b P px py → Touched a c P px py
touched-wider P h T = record { vertex = T.vertex; from = T.from; to = omega (arith, T.to); stays = T.stays; at_x = T.at_x; at_y = T.at_y }

-- of all vertices
pub touched-on : {a px py : ℕ} (P Q : Vertices) → P.n ≤ Q.n → Kept P.n P Q → Touched a P.n P px py → Touched a Q.n Q px py
touched-on P Q h K T = touched-wider Q h (touched-kept P Q (omega arith) K T)

start-stays : (k : VertexKind) → start k ≡ true → still k ≡ true
start-stays k e = rw e

module _ (a : ℕ) (O P : Vertices) (sx sy ex ey : ℕ) (h : a ≤ O.n) where
  pub touched-start : {J : Junction} → Laid O P sx sy ex ey J → Touched a P.n P sx sy
  touched-start L =
      record { vertex = O.n; from = h; to = omega (arith, L.two); stays = start-stays (kind_at P.kinds O.n) L.from; at_x = L.from_x; at_y = L.from_y }

  pub touched-end : Laid O P sx sy ex ey None → Touched a P.n P ex ey
  touched-end L =
      record { vertex = P.n - 1; from = omega (arith, L.two); to = omega (arith, L.two); stays = ap still L.to; at_x = L.to_x; at_y = L.to_y }
