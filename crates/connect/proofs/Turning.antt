-- The turns of a net are its root wire and its branches; each ending of `connect_net` is what the definition says.
use mathlib.Core.Path.{◌≡◌, refl, sym, ap, ◌∙◌}
use mathlib.Core.Bool.{Bool, true, false, cond}
use mathlib.Core.List.{List, [], ◌∷◌}
use Prim.Native.Nat.{ℕ, zero, suc, ◌+◌, ◌-◌, ◌*◌, ◌/◌, ◌%◌, ◌<◌, ◌≤◌}
use native.Mathlib.Numerals.{add-one}
use native.Mathlib.Omega.{arith}
use native.Mathlib.Decide.{dec_lt}
use lib.Dec.{ltb}
use lib.ListN.{length, get_or, replicate, length-replicate, length-map}
use Rattle.std.proofs.Math.ListN.{get_or-map}
use borrow.Author.Tests.{eq-eqb, ne_eqb, lt-ltb}
use Rattle.nodes.specs.Graph.{Graph}
use Rattle.path_finding.specs.Places.{known}
use Rattle.wire.specs.Wires.{Vertices, vertices, ends as ends_of, Wires, wires}
use Rattle.wire.specs.declared.types.End.{End}
use Rattle.wire.specs.declared.types.Place.{Place}
use Rattle.wire.specs.Lent.{words, xs_of, ys_of}
use Rattle.routing.specs.Branches.{Tried, tried}
use Rattle.routing.specs.Roots.{slant_of, root_to as pair_to, root_pair}
use Rattle.routing.proofs.Pairs.{square-least, first-in, second-in}
use Rattle.net.specs.Nets.{Branched, branched, root_wire, root_wire_from, branch_at, branches_to, Net, refused, kept, END_WORDS, no_ends, route_net, connect_net}
use Rattle.net.proofs.Branching.{Bounded, bounds-now, wire-bounds, at-refused}
use Rattle.connect.specs.Turns.{turn_at, turns_to, outcome}
use Rattle.connect.proofs.Keeping.{net-still, wiped}
use Rattle.connect.proofs.Unused.{turns-unused}

-- ---- one turn

module _ (G : Graph) (px py : List ℕ) (a b : ℕ) where
  pub turn-branch : (k : ℕ) (S X : Branched) → (k ≡ 0 → ⊥) → X ≡ branch_at G px py a b (k - 1) S → X ≡ turn_at G px py a b k S
  unfolding turn_at
  turn-branch k S X h e = by k refl e
    where
      by : (i : ℕ) → i ≡ k → X ≡ branch_at G px py a b (i - 1) S → X ≡ turn_at G px py a b i S
      by zero q e = absurd (h (sym q))
      by (suc i) q e = let p : suc i - 1 ≡ i = omega arith in rw (p) at e

  -- ---- all turns

  -- the root wire is the first turn
  pub turns-root : (S₀ : Branched) (t : ℕ) (X : Wires) → tried t X ≡ root_wire G px py a b S₀.wires → branched t X S₀.joins S₀.j ≡ turns_to G px py a b 1 S₀
  unfolding turns_to turn_at
  turns-root S₀ t X e = ap (λ (T : Tried). branched T.number T.wires S₀.joins S₀.j) e

  pub turns_more : (k : ℕ) (S₀ S X : Branched) → S ≡ turns_to G px py a b k S₀ → X ≡ turn_at G px py a b k S → X ≡ turns_to G px py a b (k + 1) S₀
  unfolding turns_to
  turns_more k S₀ S X s x = rw (add-one, ← s) x

  -- after the first turn the turns are the branches
  abbrev after : Branched → Branched
  after S = branched (root_wire G px py a b S.wires).number (root_wire G px py a b S.wires).wires S.joins S.j

  turns-are : (k : ℕ) (S : Branched) → turns_to G px py a b (suc k) S ≡ branches_to G px py a b k (after S)
  unfolding turns_to turn_at branches_to
  turns-are zero S = refl
  turns-are (suc k) S = ap (branch_at G px py a b k) (turns-are k S)

  root-bounds : (S : Branched) → S.wires.page.n ≤ 512 → S.wires.net.m ≡ 0 → 2 * S.j ≤ S.wires.page.n → (after S).number ≡ 0 → Bounded (after S)
  unfolding root_wire
  root-bounds S h m j = wire-bounds _ _ _ _ _ _ true _ S.wires S.j h (omega arith) j

  pub turns-bounds : (k : ℕ) (S₀ S : Branched) → 0 < k → S ≡ turns_to G px py a b k S₀ → S₀.wires.page.n ≤ 512 → S₀.wires.net.m ≡ 0 → 2 * S₀.j ≤ S₀.wires.page.n → S.number ≡ 0 → Bounded S
  turns-bounds zero S₀ S p e h m j = absurd (omega arith)
  turns-bounds (suc k) S₀ S p e h m j = bounds-now G px py a b k (after S₀) S (e ∙ turns-are k S₀) (root-bounds S₀ h m j)

  -- the branch of the endpoint i is the turn behind
  pub turns-branch : (i : ℕ) (S₀ S X : Branched) → S ≡ turns_to G px py a b (i + 1) S₀ → X ≡ branch_at G px py a b i S → X ≡ turns_to G px py a b (i + 1 + 1) S₀
  turns-branch i S₀ S X s x =
      let e : i + 1 - 1 ≡ i = omega arith in
      turns_more (i + 1) S₀ S X s (turn-branch (i + 1) S X (λ z. omega arith) (rw e x))

  -- nothing follows a refusal
  pub turns-refused : (d k : ℕ) (S₀ S : Branched) → 0 < k → S ≡ turns_to G px py a b k S₀ → (S.number ≡ 0 → ⊥) → S ≡ turns_to G px py a b (k + d) S₀
  turns-refused zero k S₀ S p s h = let e : k + 0 ≡ k = omega arith in rw e s
  turns-refused (suc d) k S₀ S p s h =
      let e : k + suc d ≡ k + d + 1 = omega arith in
      rw e (turns_more (k + d) S₀ S S (turns-refused d k S₀ S p s h) (turn-branch (k + d) S S (λ z. omega arith) (at-refused G px py a b (k + d - 1) S h)))

-- the root wire between two places
pub root-places : (G : Graph) (ps : List Place) (a b : ℕ) (d : Place) (W : Wires) → d ≡ record { x = 0; y = 0 }
    → root_wire_from G (get_or ps a d).x (get_or ps a d).y (get_or ps b d).x (get_or ps b d).y W ≡ root_wire G (xs_of ps) (ys_of ps) a b W
unfolding root_wire
root-places G ps a b d W e =
    rw (e, get_or-map (λ (p : Place). p.x) ps a (record { x = 0; y = 0 }), get_or-map (λ (p : Place). p.y) ps a (record { x = 0; y = 0 }), get_or-map (λ (p : Place). p.x) ps b (record { x = 0; y = 0 }), get_or-map (λ (p : Place). p.y) ps b (record { x = 0; y = 0 }))

-- the words of a net's ends
pub length-words : (es : List End) → length (words es) ≡ 4 * length es
unfolding words
length-words [] = refl
length-words (e ∷ es) = let h = length-words es in omega arith

-- from no ends, whatever the rows hold
pub turns-all : (G : Graph) (px py : List ℕ) (p : ℕ) (P : Vertices) (E R : List ℕ) (j : ℕ) (X : Branched) → length E ≡ END_WORDS → p ≡ root_pair px py (length px)
    → X ≡ turns_to G px py (p / length px) (p % length px) (length px + 1) (branched 0 (wires P (ends_of E 0)) R j) → outcome X ≡ outcome (route_net G px py P R j)
unfolding route_net no_ends
turns-all G px py p P E R j X e q x = rw (← q) (ap (λ (S : Branched). outcome S) x ∙ by END_WORDS e)
  where
    by : (n : ℕ) → length E ≡ n → outcome (turns_to G px py (p / length px) (p % length px) (length px + 1) (branched 0 (wires P (ends_of E 0)) R j))
        ≡ outcome (branches_to G px py (p / length px) (p % length px) (length px) (after G px py (p / length px) (p % length px) (branched 0 (wires P (ends_of (replicate n 0) 0)) R j)))
    by n h =
        turns-unused G px py _ _ (length px + 1) P E (replicate n 0) R j (h ∙ sym (length-replicate n 0)) ∙ rw (add-one) (ap (λ (S : Branched). outcome S) (turns-are G px py (p / length px) (p % length px) (length px) (branched 0 (wires P (ends_of (replicate n 0) 0)) R j)))

-- ---- the root pair

pair-to : (xs ys : List ℕ) (n k : ℕ) → 2 ≤ n → k ≤ n * n → pair_to xs ys n k < n * n
unfolding pair_to
pair-to xs ys n zero h l = omega (arith, square-least n h)
pair-to xs ys n (suc k) h l = by (ltb (slant_of xs ys n (pair_to xs ys n k)) (slant_of xs ys n k)) (pair-to xs ys n k h (omega arith))
  where
    by : (t : Bool) → pair_to xs ys n k < n * n → cond t k (pair_to xs ys n k) < n * n
    by true r = l
    by false r = r

pub pair-in : (xs ys : List ℕ) (n p : ℕ) → 2 ≤ n → p ≡ root_pair xs ys n → (p / n < n) × (p % n < n)
unfolding root_pair
pair-in xs ys n p h e =
    let l : p < n * n = rw e (pair-to xs ys n (n * n) h (omega arith)) in
    (first-in n p (omega arith) l, second-in n p (omega arith))

-- ---- the number before anything is routed

abbrev pub Prior : List ℕ → List ℕ → ℕ → List ℕ → List ℕ → ℕ
Prior xs ys n px py = cond (ltb (length px) 2) 12 (cond (known xs ys n px py (length px)) 0 13)

module _ (xs ys : List ℕ) (n : ℕ) (px py : List ℕ) where
  pub prior-few : length px < 2 → 12 ≡ Prior xs ys n px py
  prior-few h = rw (lt-ltb _ _ h)

  pub prior-two : (r : ℕ) → r ≡ Prior xs ys n px py → r ≡ 0 → 2 ≤ length px
  prior-two r e z = by (dec_lt (length px) 2)
    where
      by : Dec (length px < 2) → 2 ≤ length px
      by (yes h) = let q : ◌≡◌ {A = ℕ} 12 0 = prior-few h ∙ sym e ∙ z in absurd (omega arith)
      by (no h) = omega arith

-- ---- the endings

module _ (G : Graph) (px py : List ℕ) (P : Vertices) (R : List ℕ) (j r : ℕ) (e : r ≡ Prior G.xs G.ys G.count px py) where
  pub connect-early : (X : Net) → (r ≡ 0 → ⊥) → X ≡ refused r P R j → X ≡ connect_net G px py P R j
  unfolding connect_net
  connect-early X h x = by (ltb (length px) 2) (known G.xs G.ys G.count px py (length px)) e
    where
      by : (s t : Bool) → r ≡ cond s 12 (cond t 0 13) → X ≡ cond s (refused 12 P R j) (cond t (kept (route_net G px py P R j) P R j) (refused 13 P R j))
      by true t q = x ∙ ap (λ (k : ℕ). refused k P R j) q
      by false true q = absurd (h q)
      by false false q = x ∙ ap (λ (k : ℕ). refused k P R j) q

  on : r ≡ 0 → kept (route_net G px py P R j) P R j ≡ connect_net G px py P R j
  unfolding connect_net
  on z = by (ltb (length px) 2) (known G.xs G.ys G.count px py (length px)) (sym z ∙ e)
    where
      by : (s t : Bool) → ◌≡◌ {A = ℕ} 0 (cond s 12 (cond t 0 13)) → kept (route_net G px py P R j) P R j ≡ cond s (refused 12 P R j) (cond t (kept (route_net G px py P R j) P R j) (refused 13 P R j))
      by true t q = absurd (omega arith)
      by false true q = refl
      by false false q = absurd (omega arith)

  module _ (z : r ≡ 0) (S : Net) (s : S ≡ outcome (route_net G px py P R j)) where
    same_number : S.number ≡ (route_net G px py P R j).number
    same_number = ap (λ (N : Net). N.number) s

    pub connect-done : S.number ≡ 0 → S ≡ connect_net G px py P R j
    unfolding kept
    connect-done h = s ∙ by (sym same_number ∙ h) ∙ on z
      where
        by : (route_net G px py P R j).number ≡ 0 → outcome (route_net G px py P R j) ≡ kept (route_net G px py P R j) P R j
        by q = rw (eq-eqb _ _ q, q)

    pub connect-refused : (X : Net) → (S.number ≡ 0 → ⊥) → X ≡ refused S.number (vertices S.page.x S.page.y S.page.kinds P.n) S.joins j → X ≡ connect_net G px py P R j
    unfolding kept
    connect-refused X h x = by (λ q. h (same_number ∙ q)) ∙ on z
      where
        by : ((route_net G px py P R j).number ≡ 0 → ⊥) → X ≡ kept (route_net G px py P R j) P R j
        by w = rw (ne_eqb _ _ w) ((rw s at x) ∙ wiped (route_net G px py P R j).number P R j (route_net G px py P R j) (net-still P R j G px py))

-- as many coordinates as places
pub length-xs : (ps : List Place) → length (xs_of ps) ≡ length ps
length-xs ps = simp length-map
