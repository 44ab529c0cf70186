-- A junction comes after what it joins: the end that a branch takes names a vertex from before it, and the branch has two vertices or more.
use mathlib.Core.Bool.{Bool, true, false, cond}
use mathlib.Core.List.{List}
use Prim.Native.Nat.{ℕ, zero, suc, ◌+◌, ◌-◌, ◌<◌, ◌≤◌}
use native.Mathlib.Omega.{arith}
use lib.Dec.{eqb, ltb}
use lib.ListN.{get_or}
use Rattle.vertex.specs.Kinds.{Junction}
use Rattle.wire.specs.Ends.{end_vertex, stands, first_from, junction_end, end_distance, nearest_end}
use Rattle.wire.specs.Lines.{Line}
use Rattle.wire.specs.Wires.{Wires, Ends, Held, push_fallback, push_vertices, line_vertices, line_ends, fallback_vertices}
use Rattle.wire.proofs.Pushes.{fallback-least}
use Rattle.wire.proofs.Offers.{held_more, held-push, line-held}
use Rattle.routing.specs.Branches.{Tried, tried, Limited, Joint, fits, line_wire, fallback_wire, route_wire, joined_end, route_branch}
use Rattle.routing.proofs.Limits.{fallback-n, limited}

-- ---- the end that is taken is one of the net's

cond-le : (b : Bool) (x y m : ℕ) → x ≤ m → y ≤ m → cond b x y ≤ m
cond-le true x y m p q = p
cond-le false x y m p q = q

first-le : (k : ℕ) (E : List ℕ) (px py i : ℕ) → first_from k E px py i ≤ i + k
unfolding first_from
first-le zero E px py i = omega arith
first-le (suc k) E px py i = cond-le (stands E px py i) _ _ _ (omega arith) (omega (arith, first-le k E px py (i + 1)))

pub nearest-le : (E : List ℕ) (px py m : ℕ) → nearest_end E px py m ≤ m - 1
unfolding nearest_end
nearest-le E px py zero = omega arith
nearest-le E px py (suc m) =
    cond-le (ltb (end_distance E px py m) (end_distance E px py (nearest_end E px py m))) _ _ _ (omega arith) (omega (arith, nearest-le E px py m))

joined-le : (L : Line) (sx sy : ℕ) (E : Ends) → joined_end L sx sy E ≤ E.m - 1
unfolding joined_end junction_end
joined-le L sx sy E =
    cond-le (eqb L.count 0) _ _ _ (nearest-le E.rows sx sy E.m) (omega (arith, first-le (E.m - 1) E.rows (get_or L.x (L.count - 1) 0) (get_or L.y (L.count - 1) 0) 0))

pub joined_in : (L : Line) (sx sy : ℕ) (E : Ends) → 0 < E.m → joined_end L sx sy E < E.m
joined_in L sx sy E h = omega (arith, joined-le L sx sy E)

branch-limited : (W : Wires) (L : Line) (sx sy : ℕ) (along : Bool) → W.page.n ≤ 512 → W.net.m ≤ 4096 → Limited W (route_branch L sx sy along W)
unfolding route_branch
branch-limited W L sx sy along n-le m-le = limited W n-le m-le L sx sy _ _ along false _

-- ---- every end still names a vertex

module _ (W : Wires) (H : Held W.page.n W.net) where
  fallback-held : (sx sy ex ey : ℕ) (along : Bool) (J : Junction) → Held (push_fallback sx sy ex ey along J W).page.n (push_fallback sx sy ex ey along J W).net
  unfolding push_fallback
  fallback-held sx sy ex ey along J =
      let a = fallback-n sx sy ex ey along J W in
      let b = (fallback-least sx sy ex ey along).0 in
      held-push _ _ _ _ _ _ (omega arith) (held-push _ _ _ _ _ _ (omega arith) (held_more (omega arith) H))

  either : (b : Bool) (S T : Tried) → Held S.wires.page.n S.wires.net → Held T.wires.page.n T.wires.net → Held (cond b S T).wires.page.n (cond b S T).wires.net
  either true S T s t = s
  either false S T s t = t

  pub tried-held : (L : Line) (sx sy ex ey : ℕ) (along is_root : Bool) (J : Junction)
      → Held (route_wire L sx sy ex ey along is_root J W).wires.page.n (route_wire L sx sy ex ey along is_root J W).wires.net
  unfolding route_wire fallback_wire line_wire
  tried-held L sx sy ex ey along is_root J =
      either (eqb L.count 0) _ _ (either (fits W.page.n (fallback_vertices sx sy ex ey along) W.net.m 2) (tried 0 (push_fallback sx sy ex ey along J W)) (tried 15 W) (fallback-held sx sy ex ey along J) H)
      (either (eqb L.count 1) (tried 14 W) _ H (either (fits W.page.n (line_vertices L) W.net.m (line_ends L)) (tried 0 (push_vertices L is_root J W)) (tried 15 W) (line-held L is_root J W H).held H))

  -- ---- the junction of a branch

  pub branch-joint : (L : Line) (sx sy : ℕ) (along : Bool) → 0 < W.net.m → W.page.n ≤ 512 → W.net.m ≤ 4096 → Joint L sx sy along W
  branch-joint L sx sy along some n-le m-le =
      record { after = λ z. omega (arith, h, b.two_more z); inside = λ z. omega (arith, b.two_more z) }
    where
      h : end_vertex W.net.rows (joined_end L sx sy W.net) < W.page.n
      h = H.held _ (joined_in L sx sy W.net some)

      b : Limited W (route_branch L sx sy along W)
      b = branch-limited W L sx sy along n-le m-le
