-- Every wire has two vertices or more, so that a page has at most half as many junctions as vertices, and there is room for each.
use mathlib.Core.Path.{◌≡◌, refl}
use mathlib.Core.Bool.{Bool, true, false, cond}
use mathlib.Core.List.{List, [], ◌∷◌}
use Prim.Native.Nat.{ℕ}
use native.Mathlib.Omega.{arith}
use borrow.Author.Tests.{eqb-true}
use lib.Dec.{eqb, ltb}
use lib.ListN.{length, get_or}
use Rattle.std.specs.Prelude.{None}
use Rattle.wire.specs.Wires.{Vertices, wires}
use Rattle.nodes.specs.Graph.{Graph}
use Rattle.path_finding.specs.Places.{known}
use Rattle.net.specs.Nets.{net, Branched, branched, root_from, root_to, root_wire, found_line, along, no_ends, route_net, refused, kept, connect_net}
use Rattle.layout.specs.Layout.{Fit}
use Rattle.net.proofs.Branching.{Bounded, wire-bounds, bounds-now}

module _ (G : Graph) (px py : List ℕ) (P : Vertices) (R : List ℕ) (j : ℕ) (r : Fit P.n j) where
  route-bounds : (route_net G px py P R j).number ≡ 0 → Bounded (route_net G px py P R j)
  unfolding route_net root_wire no_ends
  route-bounds =
      let a = root_from px py in
      let b = root_to px py in
      let T = root_wire G px py a b (wires P no_ends) in
      bounds-now G px py a b (length px) (branched T.number T.wires R j) (route_net G px py P R j) refl
      (wire-bounds (found_line G (get_or px a 0) (get_or py a 0) (get_or px b 0 ∷ []) (get_or py b 0 ∷ [])) (get_or px a 0) (get_or py a 0) (get_or px b 0) (get_or py b 0) (along G (get_or px a 0) (get_or py a 0)) true None (wires P no_ends) j r.most (omega arith) r.half)

  kept-room : (S : Branched) → (S.number ≡ 0 → Bounded S) → Fit (kept S P R j).page.n (kept S P R j).j
  unfolding kept refused
  kept-room S B = by (eqb S.number 0) refl
    where
      by : (t : Bool) → eqb S.number 0 ≡ t → Fit (cond t (net 0 S.wires.page S.joins S.j) (refused S.number P R j)).page.n (cond t (net 0 S.wires.page S.joins S.j) (refused S.number P R j)).j
      by true e = let b = B (eqb-true S.number 0 e) in record { most = b.n_most; half = omega (arith, b.joined) }
      by false e = r

  pub connect-room : Fit (connect_net G px py P R j).page.n (connect_net G px py P R j).j
  unfolding connect_net refused
  connect-room = by (ltb (length px) 2) (known G.xs G.ys G.count px py (length px))
    where
      by : (s t : Bool) → Fit (cond s (refused 12 P R j) (cond t (kept (route_net G px py P R j) P R j) (refused 13 P R j))).page.n (cond s (refused 12 P R j) (cond t (kept (route_net G px py P R j) P R j) (refused 13 P R j))).j
      by true t = r
      by false true = kept-room (route_net G px py P R j) route-bounds
      by false false = r
