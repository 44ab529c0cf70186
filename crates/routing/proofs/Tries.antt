-- What each way out of a tried wire returns is what the definition says.
use mathlib.Core.Path.{◌≡◌, sym, ◌∙◌}
use mathlib.Core.Bool.{Bool, true, false, ◌&&◌}
use mathlib.Core.List.{List}
use Prim.Native.Nat.{ℕ, ◌+◌, ◌-◌, ◌≤◌}
use lib.Dec.{eqb, leb}
use lib.ListN.{get_or}
use borrow.Author.Tests.{eq-eqb, ne_eqb, leb-true}
use Rattle.fixed.proofs.Bools.{and_left, and_right}
use Rattle.vertex.specs.Kinds.{Junction}
use Rattle.vertex.specs.Pages.{carried}
use Rattle.wire.specs.Ends.{CORNER, end_x_at, end_y_at, end_vertex, end_kind, nearest_end, junction_end}
use Rattle.wire.specs.Lines.{Line}
use Rattle.wire.specs.Wires.{Wires, Ends, push_vertices, push_fallback, line_vertices, line_ends, fallback_vertices}
use Rattle.routing.specs.Branches.{Tried, tried, fits, line_wire, fallback_wire, route_wire, joined_end, route_branch, put_junction, join_branch}

module _ (n v m e : ℕ) (b : Bool) (q : b ≡ fits n v m e) (t : b ≡ true) where
  both : (leb (n + v) 512 && leb (m + e) 4096) ≡ true
  unfolding fits
  both = sym q ∙ t

  pub fits-vertices : n + v ≤ 512
  fits-vertices = leb-true (n + v) 512 (and_left (leb (n + v) 512) (leb (m + e) 4096) both)

  pub fits-ends : m + e ≤ 4096
  fits-ends = leb-true (m + e) 4096 (and_right (leb (n + v) 512) (leb (m + e) 4096) both)

module _ (L : Line) (is_root : Bool) (J : Junction) (W : Wires) where
  pub line-one : L.count ≡ 1 → tried 14 W ≡ line_wire L is_root J W
  unfolding line_wire
  line-one h = rw (eq-eqb _ _ h)

  module _ (ne : L.count ≡ 1 → ⊥) (v : ℕ) (ev : v ≡ line_vertices L) (b : Bool) (q : b ≡ fits W.page.n v W.net.m (line_ends L)) where
    pub line-over : b ≡ false → tried 15 W ≡ line_wire L is_root J W
    unfolding line_wire
    line-over t = rw (ne_eqb _ _ ne, ← ev, ← q, t)

    pub line-done : (X : Wires) → b ≡ true → X ≡ push_vertices L is_root J W → tried 0 X ≡ line_wire L is_root J W
    unfolding line_wire
    line-done X t e = rw (ne_eqb _ _ ne, ← ev, ← q, t, e)

module _ (sx sy ex ey : ℕ) (along : Bool) (J : Junction) (W : Wires) (v : ℕ) (ev : v ≡ fallback_vertices sx sy ex ey along) (b : Bool) (q : b ≡ fits W.page.n v W.net.m 2) where
  pub fallback-over : b ≡ false → tried 15 W ≡ fallback_wire sx sy ex ey along J W
  unfolding fallback_wire
  fallback-over t = rw (← ev, ← q, t)

  pub fallback-done : (X : Wires) → b ≡ true → X ≡ push_fallback sx sy ex ey along J W → tried 0 X ≡ fallback_wire sx sy ex ey along J W
  unfolding fallback_wire
  fallback-done X t e = rw (← ev, ← q, t, e)

module _ (L : Line) (sx sy ex ey : ℕ) (along is_root : Bool) (J : Junction) (W : Wires) (T : Tried) where
  pub route-fallback : L.count ≡ 0 → T ≡ fallback_wire sx sy ex ey along J W → T ≡ route_wire L sx sy ex ey along is_root J W
  unfolding route_wire
  route-fallback h e = rw (eq-eqb _ _ h) e

  pub route-line : (L.count ≡ 0 → ⊥) → T ≡ line_wire L is_root J W → T ≡ route_wire L sx sy ex ey along is_root J W
  unfolding route_wire
  route-line h e = rw (ne_eqb _ _ h) e

module _ (L : Line) (sx sy : ℕ) (E : Ends) (r : ℕ) where
  pub joined-nearest : L.count ≡ 0 → r ≡ nearest_end E.rows sx sy E.m → r ≡ joined_end L sx sy E
  unfolding joined_end
  joined-nearest h e = rw (eq-eqb _ _ h) e

  pub joined_at : (px py : ℕ) → (L.count ≡ 0 → ⊥) → px ≡ get_or L.x (L.count - 1) 0 → py ≡ get_or L.y (L.count - 1) 0 → r ≡ junction_end E.rows E.m px py
      → r ≡ joined_end L sx sy E
  unfolding joined_end
  joined_at px py h ex ey e = rw (ne_eqb _ _ h, ← ex, ← ey) e

module _ (L : Line) (sx sy : ℕ) (along : Bool) (W : Wires) (e : ℕ) (q : e ≡ joined_end L sx sy W.net) (J : Junction) (g : J ≡ carried (eqb (end_kind W.net.rows e) CORNER)) (T : Tried)
    (t : T ≡ route_wire L sx sy (end_x_at W.net.rows e) (end_y_at W.net.rows e) along false J W) where
  pub branch-tried : T ≡ route_branch L sx sy along W
  unfolding route_branch
  branch-tried = rw (← q, ← g) t

  pub branch-refused : (R : List ℕ) (j : ℕ) → (T.number ≡ 0 → ⊥) → R ≡ join_branch L sx sy along W R j
  unfolding join_branch
  branch-refused R j h = rw (← branch-tried, ne_eqb _ _ h)

  pub branch-joined : (R R' : List ℕ) (j : ℕ) → T.number ≡ 0 → R' ≡ put_junction R j (end_vertex W.net.rows e) (T.wires.page.n - 1) (end_kind W.net.rows e)
      → R' ≡ join_branch L sx sy along W R j
  unfolding join_branch
  branch-joined R R' j h r = rw (← branch-tried, eq-eqb _ _ h, ← q) r
