-- 'Reached by links' of a search is a chain of links of the graph, and `has_link` says that a link leads on.
use mathlib.Core.Path.{◌≡◌, refl, sym, ap, ◌∙◌, subst}
use mathlib.Core.Logic.{◌⊎◌, inl, inr}
use mathlib.Core.Bool.{Bool, true, false, not, ◌||◌}
use Prim.Native.Nat.{ℕ, ◌<◌}
use native.Mathlib.Omega.{arith}
use borrow.Author.Tests.{ne_eqb, eqb-false}
use lib.Dec.{eqb}
use Rattle.fixed.proofs.Bools.{clash}
use Rattle.nodes.specs.Chains.{Edge, Chain, here, via}
use Rattle.nodes.specs.Graph.{Graph, none, onward}
use Rattle.nodes.specs.Wf.{Wf, Far, Linked}
use Rattle.nodes.proofs.Sound.{four}
use Rattle.astar.specs.Reached.{Reach, start, onto}
use Rattle.path_finding.specs.Line.{has_link}

or-first : (a b : Bool) → a ≡ true → (a || b) ≡ true
or-first true b e = refl
or-first false b e = absurd (clash e refl)

or-next : (a : Bool) {b : Bool} → b ≡ true → (a || b) ≡ true
or-next true e = refl
or-next false e = e

module _ (G : Graph) (w : Wf G) where
  node-some : (j : ℕ) → j < G.count → j ≡ none → ⊥
  node-some j h e = omega (arith, w.few)

  edge_by : (i j d : ℕ) → i < G.count → d < 4 → onward G d i ≡ j → (j ≡ none → ⊥) → Edge G i j
  edge_by i j d h l e n = record { dir = d; low = l; start = h; end = go (w.good.links_good i d h l); leads = e }
    where
      go : (onward G d i ≡ none) ⊎ Linked Far G i d → j < G.count
      go (inl z) = absurd (n (sym e ∙ z))
      go (inr t) = subst (λ (u : ℕ). u < G.count) e t.below

  -- ---- reached, and joined by a chain

  chain_more : {i j k : ℕ} → Chain G i j → Edge G j k → Chain G i k
  chain_more here e = via e here
  chain_more (via f c) e = via f (chain_more c e)

  pub record Chained (a v : ℕ) : Type 0 where
    pub inside : v < G.count
    pub chain : Chain G a v

  pub chained : (a : ℕ) → a < G.count → {v : ℕ} → Reach G a v → Chained a v
  chained a h start = record { inside = h; chain = here }
  chained a h (onto {v = v} {w = u} d r l e n) =
      let c = chained a h r in
      let f = edge_by v u d c.inside l e n in
      record { inside = f.end; chain = chain_more c.chain f }

  pub reached : (a : ℕ) {i k : ℕ} → Reach G a i → Chain G i k → Reach G a k
  reached a r here = r
  reached a r (via {j = j} e c) = reached a (onto e.dir r e.low e.leads (node-some j e.end)) c

  -- ---- a link

  pub record Out (v : ℕ) : Type 0 where
    pub to : ℕ
    pub edge : Edge G v to

  pub out : (v : ℕ) → v < G.count → has_link G.links v ≡ true → Out v
  unfolding has_link
  out v h e = go (eqb (onward G 0 v) none) (eqb (onward G 1 v) none) (eqb (onward G 2 v) none) (eqb (onward G 3 v) none) refl refl refl refl e
    where
      by : (d : ℕ) → d < 4 → eqb (onward G d v) none ≡ false → Out v
      by d l z = record { to = onward G d v; edge = edge_by v (onward G d v) d h l refl (eqb-false _ _ z) }

      go : (p q r s : Bool) → eqb (onward G 0 v) none ≡ p → eqb (onward G 1 v) none ≡ q → eqb (onward G 2 v) none ≡ r → eqb (onward G 3 v) none ≡ s → (not p || (not q || (not r || not s))) ≡ true → Out v
      go false q r s ep eq er es z = by 0 (omega arith) ep
      go true false r s ep eq er es z = by 1 (omega arith) eq
      go true true false s ep eq er es z = by 2 (omega arith) er
      go true true true false ep eq er es z = by 3 (omega arith) es
      go true true true true ep eq er es z = absurd (clash z refl)

  -- whether the node v has a link in the direction d
  abbrev leaves : ℕ → ℕ → Bool
  leaves v d = not (eqb (onward G d v) none)

  pub has_one : (v j : ℕ) → Edge G v j → has_link G.links v ≡ true
  unfolding has_link
  has_one v j e =
      four (λ d. onward G d v ≡ j → has_link G.links v ≡ true)
      (λ l. or-first (leaves v 0) (leaves v 1 || (leaves v 2 || leaves v 3)) (on 0 l))
      (λ l. or-next (leaves v 0) (or-first (leaves v 1) (leaves v 2 || leaves v 3) (on 1 l)))
      (λ l. or-next (leaves v 0) (or-next (leaves v 1) (or-first (leaves v 2) (leaves v 3) (on 2 l))))
      (λ l. or-next (leaves v 0) (or-next (leaves v 1) (or-next (leaves v 2) (on 3 l))))
      e.dir
      e.low
      e.leads
    where
      on : (d : ℕ) → onward G d v ≡ j → leaves v d ≡ true
      on d l = ap not (ne_eqb (onward G d v) none (λ z. node-some j e.end (sym l ∙ z)))
