-- The path that a search leaves is the line that the wires take.
use mathlib.Core.Path.{◌≡◌, refl, ◌∙◌}
use mathlib.Core.Bool.{Bool, true, false, cond}
use mathlib.Core.List.{List, [], ◌∷◌}
use Prim.Native.Nat.{ℕ, ◌<◌, ◌≤◌, zero-le}
use native.Mathlib.Omega.{arith}
use lib.Dec.{ltb}
use lib.IntN.{ℤ}
use lib.ListN.{length, take, set}
use borrow.Author.Tests.{ltb-true}
use Rattle.fixed.specs.Up.{ups}
use Rattle.fixed.proofs.Lists.{length-ups, ups-take}
use Rattle.nodes.specs.Graph.{Graph, NODES}
use Rattle.astar.specs.Reached.{Ready, Below}
use Rattle.path_finding.specs.declared.Finder.{Finder}
use Rattle.path_finding.specs.Lent.{Kept}
use Rattle.path_finding.specs.Line.{line as nodes-of, table}
use Rattle.path_finding.specs.Places.{start_of, ends_of, ends_known, line_between}
use Rattle.path_finding.proofs.Between.{between-below}
use Rattle.path_finding.proofs.Theorems.{right}
use Rattle.wire.specs.Lines.{Line, line_of}
use Rattle.vertex.specs.Kinds.{Junction}
use Rattle.wire.specs.Wires.{ends as row_ends, Wires}
use Rattle.routing.specs.Branches.{Tried, route_wire}
use Rattle.net.specs.Lent.{Searchable}
use Rattle.net.specs.Nets.{found_line, end_word, branch_path, branch_line}

-- a line has at most as many nodes as the graph
pub few : (G : Graph) → (0 < G.count → Ready G) → (x y : ℕ) (exs eys : List ℕ) → length (line_between G x y exs eys) ≤ G.count
unfolding line_between
few G w x y exs eys = by (ltb (start_of G x y) G.count) refl
  where
    known : (k : Bool) (l : List ℕ) → length l ≤ G.count → length (cond k l []) ≤ G.count
    known true l h = h
    known false l h = zero-le

    by : (b : Bool) → ltb (start_of G x y) G.count ≡ b
        → length (cond b (cond (ends_known G exs eys) (nodes-of G (ends_of G exs eys) (start_of G x y)) []) []) ≤ G.count
    by true e =
        let h = ltb-true _ _ e in
        known (ends_known G exs eys) _ (right G (w (omega arith)) (ends_of G exs eys) (start_of G x y) h).few
    by false e = zero-le

-- ---- the ends that are lent

-- one end: its place is put into a list of one entry
pub one_place : (l l' : List ℤ) (v : ℕ) → length l ≡ 1 → ups l' ≡ set (ups l) 0 v → ups l' ≡ v ∷ []
one_place l l' v h e = e ∙ by (ups l) (length-ups l ∙ h)
  where
    by : (m : List ℕ) → length m ≡ 1 → set m 0 v ≡ v ∷ []
    by [] q = absurd (omega arith)
    by (a ∷ []) q = refl
    by (a ∷ b ∷ m) q = absurd (omega (arith, q))

-- the ends of the net
pub all-ends : (w : ℕ) (E : List ℕ) (m : ℕ) (l : List ℤ) → take m (ups l) ≡ table (end_word w E) m → ups (take m l) ≡ table (end_word w E) m
all-ends w E m l e = ups-take m l ∙ e

-- ---- the path that a search left at the end of a list

-- to one end, and to the ends of the net
pub root-path : (G : Graph) (x y tx ty : ℕ) (ex ey p : List ℕ) → ex ≡ tx ∷ [] → ey ≡ ty ∷ [] → p ≡ line_between G x y ex ey → p ≡ line_between G x y (tx ∷ []) (ty ∷ [])
root-path G x y tx ty ex ey p a b e = rw (← a, ← b) e

pub branch-path : (G : Graph) (x y : ℕ) (E : List ℕ) (m : ℕ) (ex ey p : List ℕ) → ex ≡ table (end_word 0 E) m → ey ≡ table (end_word 1 E) m → p ≡ line_between G x y ex ey → p ≡ branch_path G x y (row_ends E m)
branch-path G x y E m ex ey p a b e = rw (← a, ← b) e

-- wires can be laid along it
pub on-path : (G : Graph) → (0 < G.count → Ready G) → G.count ≤ NODES → (x y : ℕ) (exs eys p : List ℕ) → p ≡ line_between G x y exs eys → Below G.count p × (length p ≤ NODES)
on-path G w h x y exs eys p e = rw e (between-below G w x y exs eys, omega (arith, few G w x y exs eys))

-- and are those of the line that the definitions have
pub line-found : (G : Graph) (x y : ℕ) (exs eys p : List ℕ) → p ≡ line_between G x y exs eys → line_of G p ≡ found_line G x y exs eys
unfolding found_line
line-found G x y exs eys p e = rw e

pub branch-found : (G : Graph) (x y : ℕ) (E : List ℕ) (m : ℕ) (p : List ℕ) → p ≡ branch_path G x y (row_ends E m) → line_of G p ≡ branch_line G x y (row_ends E m)
unfolding branch_line
branch-found G x y E m p e = line-found G x y _ _ p e

-- ---- wires along the line

pub root-routed : (T : Tried) (L L' : Line) (sx sy tx ty : ℕ) (a a' : Bool) (J : Junction) (W : Wires) → T ≡ route_wire L sx sy tx ty a true J W → L ≡ L' → a ≡ a' → T ≡ route_wire L' sx sy tx ty a' true J W
root-routed T L L' sx sy tx ty a a' J W t l e = rw (← l, ← e) t

-- a finder that keeps its lists can still be searched on
pub searchable-kept : {f g : Finder} → Kept f g → Searchable f → Searchable g
searchable-kept k s = record { ready = rw k.same_graph s.ready; list_room = rw k.long_list s.list_room }
