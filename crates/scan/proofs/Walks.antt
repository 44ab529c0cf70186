-- A walk: it takes no node away, and in its loop what is left to do from here gives what the whole gives.
use mathlib.Core.Path.{◌≡◌, sym, ◌∙◌}
use mathlib.Core.Bool.{Bool, true, false, cond}
use Prim.Native.Nat.{ℕ, zero, suc, ◌+◌, ◌-◌, ◌<◌, ◌≤◌}
use native.Mathlib.Omega.{arith}
use borrow.Author.Tests.{eq-eqb, ne_eqb}
use lib.Dec.{eqb, ltb}
use Rattle.nodes.specs.Graph.{none, Graph, onward, find, place, link}
use Rattle.nodes.proofs.Nodes.{cond_ind, place-grows}
use Rattle.scan.specs.Walk.{Way, find_on, place_on, next, step, walk}

pub place_on-grows : (g : Graph) (d a c : ℕ) → (g.count ≤ (place_on g d a c).count) × (find_on g d a c < (place_on g d a c).count)
unfolding place_on find_on
place_on-grows g d a c = by (ltb d 2)
  where
    by : (b : Bool) → (g.count ≤ (cond b (place g c a 15) (place g a c 15)).count) × (cond b (find g c a) (find g a c) < (cond b (place g c a 15) (place g a c 15)).count)
    by true = place-grows g c a 15
    by false = place-grows g a c 15

pub step-grows : (w : Way) (g : Graph) (prev k : ℕ) → (g.count ≤ (step w g prev k).count) × (next w g k < (step w g prev k).count)
unfolding step next link
step-grows w g prev k = place_on-grows g w.dir w.across _

pub walk-grows : (w : Way) (g : Graph) (prev k m : ℕ) → g.count ≤ (walk w g prev k m).count
unfolding walk
walk-grows w g prev k zero = omega arith
walk-grows w g prev k (suc m) =
    cond_ind (eqb (onward (step w g prev k) w.dir (next w g k)) none) _ _ (λ h. g.count ≤ h.count) (λ e. omega (arith, step-grows w g prev k, walk-grows w (step w g prev k) (next w g k) (k + 1) m)) (λ e. (step-grows w g prev k).0)

-- what is left of a walk: nothing, the next step and what is left then, or the next step alone
pub walk-done : (w : Way) (g : Graph) (prev k m : ℕ) → m ≡ 0 → walk w g prev k m ≡ g
unfolding walk
walk-done w g prev k m e = rw e

pub walk_more : (w : Way) (g : Graph) (prev k m : ℕ) → 0 < m → onward (step w g prev k) w.dir (next w g k) ≡ none → walk w g prev k m ≡ walk w (step w g prev k) (next w g k) (k + 1) (m - 1)
unfolding walk
walk_more w g prev k zero h e = absurd (omega arith)
walk_more w g prev k (suc m) h e = let q : suc m - 1 ≡ m = omega arith in rw (eq-eqb _ _ e, q)

pub walk-last : (w : Way) (g : Graph) (prev k m : ℕ) → 0 < m → (onward (step w g prev k) w.dir (next w g k) ≡ none → ⊥) → walk w g prev k m ≡ step w g prev k
unfolding walk
walk-last w g prev k zero h e = absurd (omega arith)
walk-last w g prev k (suc m) h e = rw (ne_eqb _ _ e)

pub walk-full : (w : Way) (g : Graph) (prev k m : ℕ) → 0 < m → (step w g prev k).count ≤ (walk w g prev k m).count
unfolding walk
walk-full w g prev k zero h = absurd (omega arith)
walk-full w g prev k (suc m) h =
    cond_ind (eqb (onward (step w g prev k) w.dir (next w g k)) none) _ _ (λ q. (step w g prev k).count ≤ q.count) (λ e. walk-grows w (step w g prev k) (next w g k) (k + 1) m) (λ e. omega arith)

pub record Walking (w : Way) (g₀ : Graph) (start m : ℕ) (g : Graph) (prev k : ℕ) : Type 0 where
  pub reached : k ≤ m
  pub inside : prev < g.count
  pub rest : walk w g prev k (m - k) ≡ walk w g₀ start 0 m

module _ {w : Way} {g₀ : Graph} {start m : ℕ} {g : Graph} {prev k : ℕ} (i : Walking w g₀ start m g prev k) where
  pub walk-arrived : m ≤ k → g ≡ walk w g₀ start 0 m
  walk-arrived h = sym (walk-done w g prev k (m - k) (omega arith)) ∙ i.rest

  pub walk-crowded : k < m → 4096 < (step w g prev k).count → 4096 < (walk w g₀ start 0 m).count
  walk-crowded h l = rw (← i.rest) (omega (arith, walk-full w g prev k (m - k) (omega arith)))

  module _ (v : Graph) (j : ℕ) (h : k < m) (is : j ≡ next w g k) (same : v ≡ step w g prev k) where
    seen : onward (step w g prev k) w.dir (next w g k) ≡ onward v w.dir j
    seen = rw (← same, ← is)

    pub walk-stopped : (onward v w.dir j ≡ none → ⊥) → v ≡ walk w g₀ start 0 m
    walk-stopped e = same ∙ sym (walk-last w g prev k (m - k) (omega arith) (λ q. e (sym seen ∙ q))) ∙ i.rest

    pub walk-on : j < v.count → onward v w.dir j ≡ none → Walking w g₀ start m v j (k + 1)
    walk-on within e =
        let q : m - (k + 1) ≡ m - k - 1 = omega arith in
        record { reached = omega arith; inside = within; rest = rw (q, same, is) (sym (walk_more w g prev k (m - k) (omega arith) (seen ∙ e)) ∙ i.rest) }

pub walk-begin : (w : Way) (g : Graph) (start m : ℕ) → start < g.count → Walking w g start m g start 0
walk-begin w g start m l = let e : m - 0 ≡ m = omega arith in record { reached = omega arith; inside = l; rest = rw e }
