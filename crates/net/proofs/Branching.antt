-- One branch after another: what the code has is what the definitions say, and no wire goes over the bounds of page and net.
use mathlib.Core.Path.{◌≡◌, refl, sym, ap, subst}
use mathlib.Core.Bool.{Bool, true, false, cond, not, ◌||◌}
use mathlib.Core.List.{List}
use Prim.Native.Nat.{ℕ, zero, suc, ◌+◌, ◌*◌, ◌<◌, ◌≤◌}
use native.Mathlib.Omega.{arith}
use lib.Dec.{eqb}
use lib.ListN.{get_or}
use borrow.Author.Tests.{eq-eqb, ne_eqb, eqb-true, eqb-false}
use Rattle.nodes.specs.Graph.{Graph}
use Rattle.vertex.specs.Kinds.{Junction}
use Rattle.wire.specs.Lines.{Line}
use Rattle.wire.specs.Wires.{Wires, push_vertices, push_fallback, line_vertices, line_ends, fallback_vertices}
use Rattle.routing.specs.Branches.{Tried, tried, fits, line_wire, fallback_wire, route_wire, route_branch, join_branch}
use Rattle.routing.proofs.Limits.{line-m, fallback-m, limited}
use Rattle.net.specs.Lent.{Bounds}
use Rattle.net.specs.Nets.{Branched, branched, along, branch_line, branch_from, branch_at, branches_to}

-- ---- bounds

-- a wire that was made leaves an end or more
pub some-ends : (L : Line) (sx sy ex ey : ℕ) (ahead is_root : Bool) (J : Junction) (W : Wires) → (route_wire L sx sy ex ey ahead is_root J W).number ≡ 0 → 0 < (route_wire L sx sy ex ey ahead is_root J W).wires.net.m
unfolding route_wire line_wire fallback_wire
some-ends L sx sy ex ey ahead is_root J W = by (eqb L.count 0) refl
  where
    fit : (b : Bool) (X : Wires) → 0 < X.net.m → (cond b (tried 0 X) (tried 15 W)).number ≡ 0 → 0 < (cond b (tried 0 X) (tried 15 W)).wires.net.m
    fit true X h e = h
    fit false X h e = absurd (omega arith)

    one : (b : Bool) (Y : Tried) → (Y.number ≡ 0 → 0 < Y.wires.net.m) → (cond b (tried 14 W) Y).number ≡ 0 → 0 < (cond b (tried 14 W) Y).wires.net.m
    one true Y h e = absurd (omega arith)
    one false Y h e = h e

    some : (k : ℕ) → (k ≡ 0 → ⊥) → 0 < k
    some k h = omega arith

    by : (b : Bool) → eqb L.count 0 ≡ b → (cond b (cond (fits W.page.n (fallback_vertices sx sy ex ey ahead) W.net.m 2) (tried 0 (push_fallback sx sy ex ey ahead J W)) (tried 15 W)) (cond (eqb L.count 1) (tried 14 W) (cond (fits W.page.n (line_vertices L) W.net.m (line_ends L)) (tried 0 (push_vertices L is_root J W)) (tried 15 W)))).number ≡ 0
        → 0 < (cond b (cond (fits W.page.n (fallback_vertices sx sy ex ey ahead) W.net.m 2) (tried 0 (push_fallback sx sy ex ey ahead J W)) (tried 15 W)) (cond (eqb L.count 1) (tried 14 W) (cond (fits W.page.n (line_vertices L) W.net.m (line_ends L)) (tried 0 (push_vertices L is_root J W)) (tried 15 W)))).wires.net.m
    by true e = fit (fits W.page.n (fallback_vertices sx sy ex ey ahead) W.net.m 2) (push_fallback sx sy ex ey ahead J W) (omega (arith, fallback-m sx sy ex ey ahead J W))
    by false e =
        one (eqb L.count 1) (cond (fits W.page.n (line_vertices L) W.net.m (line_ends L)) (tried 0 (push_vertices L is_root J W)) (tried 15 W)) (fit (fits W.page.n (line_vertices L) W.net.m (line_ends L)) (push_vertices L is_root J W) (omega (arith, line-m L is_root J W (some L.count (eqb-false _ _ e)))))

abbrev pub Bounded : Branched → Type 0
Bounded S = Bounds S.wires.page.n S.wires.net.m S.j

pub wire-bounds : (L : Line) (sx sy ex ey : ℕ) (ahead is_root : Bool) (J : Junction) (W : Wires) (j : ℕ) → W.page.n ≤ 512 → W.net.m ≤ 4096 → 2 * j ≤ W.page.n
    → (route_wire L sx sy ex ey ahead is_root J W).number ≡ 0 → Bounds (route_wire L sx sy ex ey ahead is_root J W).wires.page.n (route_wire L sx sy ex ey ahead is_root J W).wires.net.m j
wire-bounds L sx sy ex ey ahead is_root J W j n-le m-le h z =
    let k = limited W n-le m-le L sx sy ex ey ahead is_root J in
    record { n_most = k.vertices_most; m_some = some-ends L sx sy ex ey ahead is_root J W z; m_most = k.ends_most; joined = omega (arith, k.two_more z) }

-- the root wire
pub root-bounds : (L : Line) (sx sy ex ey : ℕ) (ahead is_root : Bool) (J : Junction) (W : Wires) (j : ℕ) (T : Tried) → T ≡ route_wire L sx sy ex ey ahead is_root J W → W.page.n ≤ 512 → W.net.m ≤ 4096
    → 2 * j ≤ W.page.n → T.number ≡ 0 → Bounds T.wires.page.n T.wires.net.m j
root-bounds L sx sy ex ey ahead is_root J W j T t n-le m-le h z =
    subst (λ (X : Tried). X.number ≡ 0 → Bounds X.wires.page.n X.wires.net.m j) (sym t) (wire-bounds L sx sy ex ey ahead is_root J W j n-le m-le h) z

branch-bounds : (L : Line) (sx sy : ℕ) (ahead : Bool) (W : Wires) (j : ℕ) → W.page.n ≤ 512 → W.net.m ≤ 4096 → 2 * j ≤ W.page.n
    → (route_branch L sx sy ahead W).number ≡ 0 → Bounds (route_branch L sx sy ahead W).wires.page.n (route_branch L sx sy ahead W).wires.net.m j
unfolding route_branch
branch-bounds L sx sy ahead W j n-le m-le h = wire-bounds L sx sy _ _ ahead false _ W j n-le m-le h

from-bounds : (G : Graph) (x y : ℕ) (S : Branched) → Bounded S → (branch_from G x y S).number ≡ 0 → Bounded (branch_from G x y S)
unfolding branch_from
from-bounds G x y S B z =
    let k : Bounds _ _ (S.j + 1) = branch-bounds (branch_line G x y S.wires.net) x y (along G x y) S.wires (S.j + 1) B.n_most B.m_most (omega (arith, B.joined)) z in
    rw (eq-eqb _ _ z) k

not-or : (b d : Bool) → (not b || d) ≡ false → b ≡ true
not-or true d e = refl
not-or false d e = sym e

-- a branch is only tried where nothing is refused
pub unrefused : (n : ℕ) (d : Bool) → (not (eqb n 0) || d) ≡ false → n ≡ 0
unrefused n d e = eqb-true _ _ (not-or (eqb n 0) d e)

-- what holds of S, and of the branch where it is tried
pub at-either : (Q : Branched → Type 0) (G : Graph) (px py : List ℕ) (a b i : ℕ) (S : Branched) → Q S → (S.number ≡ 0 → Q (branch_from G (get_or px i 0) (get_or py i 0) S)) → Q (branch_at G px py a b i S)
unfolding branch_at
at-either Q G px py a b i S s t = by (not (eqb S.number 0) || (eqb i a || eqb i b)) refl
  where
    by : (c : Bool) → (not (eqb S.number 0) || (eqb i a || eqb i b)) ≡ c → Q (cond c S (branch_from G (get_or px i 0) (get_or py i 0) S))
    by true e = s
    by false e = t (unrefused S.number (eqb i a || eqb i b) e)

at_bounds : (G : Graph) (px py : List ℕ) (a b i : ℕ) (S : Branched) → (S.number ≡ 0 → Bounded S) → (branch_at G px py a b i S).number ≡ 0 → Bounded (branch_at G px py a b i S)
at_bounds G px py a b i S B =
    at-either (λ (X : Branched). X.number ≡ 0 → Bounded X) G px py a b i S B (λ z. from-bounds G (get_or px i 0) (get_or py i 0) S (B z))

to-bounds : (G : Graph) (px py : List ℕ) (a b k : ℕ) (S : Branched) → (S.number ≡ 0 → Bounded S) → (branches_to G px py a b k S).number ≡ 0 → Bounded (branches_to G px py a b k S)
unfolding branches_to
to-bounds G px py a b zero S B = B
to-bounds G px py a b (suc k) S B = at_bounds G px py a b k (branches_to G px py a b k S) (to-bounds G px py a b k S B)

pub bounds-now : (G : Graph) (px py : List ℕ) (a b k : ℕ) (S₀ S : Branched) → S ≡ branches_to G px py a b k S₀ → (S₀.number ≡ 0 → Bounded S₀) → S.number ≡ 0 → Bounded S
bounds-now G px py a b k S₀ S e B = subst (λ (X : Branched). X.number ≡ 0 → Bounded X) (sym e) (to-bounds G px py a b k S₀ B)

pub room_for : {n m j : ℕ} → Bounds n m j → (n ≤ 512) × (0 < m) × (m ≤ 4096) × (j < 256)
room_for B = (B.n_most, B.m_some, B.m_most, omega (arith, B.n_most, B.joined))

-- ---- one endpoint

-- a branch that was tried along the line
pub branch-made : (G : Graph) (x y k : ℕ) (W : Wires) (R R' : List ℕ) (j j' t : ℕ) (X : Wires) (L : Line) (ahead : Bool) → L ≡ branch_line G x y W.net → ahead ≡ along G x y
    → tried t X ≡ route_branch L x y ahead W → R' ≡ join_branch L x y ahead W R j → j' ≡ cond (eqb t 0) (j + 1) j → branched t X R' j' ≡ branch_from G x y (branched k W R j)
unfolding branch_from
branch-made G x y k W R R' j j' t X L ahead l a e r q =
    rw (← l, ← a, q, r) (ap (λ (T : Tried). branched T.number T.wires (join_branch L x y ahead W R j) (cond (eqb T.number 0) (j + 1) j)) e)

module _ (G : Graph) (px py : List ℕ) (a b i : ℕ) (S : Branched) where
  pub at-refused : (S.number ≡ 0 → ⊥) → S ≡ branch_at G px py a b i S
  unfolding branch_at
  at-refused h = rw (ne_eqb _ _ h)

  pub at-root : S.number ≡ 0 → (eqb i a || eqb i b) ≡ true → S ≡ branch_at G px py a b i S
  unfolding branch_at
  at-root h t = rw (eq-eqb _ _ h, t)

  pub at-branch : (X : Branched) (k : ℕ) → S.number ≡ 0 → (eqb i a || eqb i b) ≡ false → X ≡ branch_from G (get_or px i 0) (get_or py i 0) (branched k S.wires S.joins S.j) → X ≡ branch_at G px py a b i S
  unfolding branch_at branch_from
  at-branch X k h t e = rw (eq-eqb _ _ h, t) e
