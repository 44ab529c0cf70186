-- A search between places that all are nodes: the number is 0 exactly if the start is joined to an end with a link, else 11.
use mathlib.Core.Path.{◌≡◌, refl, sym, ap, ◌∙◌, subst}
use mathlib.Core.Logic.{◌⊎◌, inl, inr, ⊎_elim}
use mathlib.Core.Bool.{true, cond}
use mathlib.Core.List.{List, [], ◌∷◌}
use Prim.Native.Nat.{ℕ, zero, suc, ◌<◌, ◌≤◌}
use native.Mathlib.Omega.{arith}
use borrow.Author.Tests.{lt-ltb, ne_eqb}
use lib.Dec.{eqb}
use lib.ListN.{length, get_or}
use Rattle.fixed.proofs.Bools.{and_both}
use Rattle.nodes.specs.Chains.{Chain, Place}
use Rattle.nodes.specs.Graph.{Graph, seek, find}
use Rattle.nodes.specs.Wf.{Far, At}
use Rattle.nodes.proofs.Sound.{found, found-there, found-is}
use Rattle.astar.specs.Reached.{Ready, Reach, start}
use Rattle.path_finding.specs.Claims.{Goal, Right}
use Rattle.path_finding.specs.Line.{has_link, line}
use Rattle.path_finding.specs.Places.{node_at, known, start_of, ends_of, line_between, number}
use Rattle.path_finding.proofs.Lines.{table-length, table_at}
use Rattle.path_finding.proofs.Theorems.{right}
use Rattle.line_exists.specs.Exists.{Joined}
use Rattle.line_exists.proofs.Bridge.{chained, reached, out, has_one}

empty? : (l : List ℕ) → (l ≡ []) ⊎ (l ≡ [] → ⊥)
empty? [] = inl refl
empty? (v ∷ l) = inr (λ e. omega (arith, ap length e))

module _ (G : Graph) (w : Ready G) (x y : ℕ) (exs eys : List ℕ) (from : Place G x y) (to : (k : ℕ) → k < length exs → Place G (get_or exs k 0) (get_or eys k 0)) where
  abbrev node : ℕ → ℕ → ℕ
  node u v = seek G.xs G.ys G.count u v

  abbrev a : ℕ
  a = start_of G x y

  abbrev es : List ℕ
  es = ends_of G exs eys

  -- ---- the nodes of places

  node-at-place : (u v : ℕ) → Place G u v → At G (node u v) u v
  unfolding find
  node-at-place u v t =
      let h = found-there G t.node u v t.at in
      let f = found G u v h in
      record { inside = h; at_x = f.0; at_y = f.1 }

  node-is : (i u v : ℕ) → At G i u v → node u v ≡ i
  unfolding find
  node-is i u v t = found-is Far G i u v w.wf.good t

  a_in : a < G.count
  a_in = (node-at-place x y from).inside

  end_is : (k : ℕ) → k < length exs → get_or es k 0 ≡ node (get_or exs k 0) (get_or eys k 0)
  unfolding node_at
  end_is k h = table_at (node_at G.xs G.ys G.count exs eys) (length exs) k h

  -- ---- the number, by the line

  all_known : (k : ℕ) → k ≤ length exs → known G.xs G.ys G.count exs eys k ≡ true
  unfolding known node_at
  all_known zero h = refl
  all_known (suc k) h = and_both (all_known k (omega arith)) (lt-ltb _ _ (node-at-place (get_or exs k 0) (get_or eys k 0) (to k (omega arith))).inside)

  number_is : number G x y exs eys ≡ cond (eqb (length (line G es a)) 0) 11 0
  unfolding number line_between
  number_is = rw (lt-ltb _ _ a_in, all_known (length exs) (omega arith))

  no_line : line G es a ≡ [] → number G x y exs eys ≡ 11
  no_line e = number_is ∙ ap (λ (l : List ℕ). cond (eqb (length l) 0) 11 0) e

  some-line : (line G es a ≡ [] → ⊥) → number G x y exs eys ≡ 0
  some-line n = number_is ∙ go (line G es a) n
    where
      go : (l : List ℕ) → (l ≡ [] → ⊥) → ◌≡◌ {A = ℕ} (cond (eqb (length l) 0) 11 0) 0
      go [] h = absurd (h refl)
      go (v ∷ l) h = rw (ne_eqb (length (v ∷ l)) 0 (λ z. omega arith))

  -- ---- an end that counts, and joined places

  goal-of : (j : Joined G x y exs eys) → Goal G es a (get_or es j.end 0)
  goal-of j =
      let at = end_is j.end j.listed in
      let l = at ∙ node-is j.linked.node _ _ j.linked.at in
      let p = node-is j.joins.first x y j.joins.first_at in
      let q = at ∙ node-is j.joins.last _ _ j.joins.last_at in
      record {
        index = j.end;
        listed = rw (table-length (node_at G.xs G.ys G.count exs eys) (length exs)) j.listed;
        is = refl;
        linked = subst (λ (v : ℕ). has_link G.links v ≡ true) (sym l) (has_one G w.wf j.linked.node j.linked.to j.linked.edge);
        reached = subst (λ (v : ℕ). Reach G a v) (sym q) (reached G w.wf a start (subst (λ (u : ℕ). Chain G u j.joins.last) (sym p) j.joins.chain));
      }

  joined_of : (v : ℕ) → Goal G es a v → Joined G x y exs eys
  joined_of v g =
      let h : g.index < length exs = rw (table-length (node_at G.xs G.ys G.count exs eys) (length exs)) at g.listed in
      let e = sym (end_is g.index h) ∙ g.is in
      let c = chained G w.wf a a_in g.reached in
      let o = out G w.wf v c.inside g.linked in
      let t = subst (λ (u : ℕ). At G u (get_or exs g.index 0) (get_or eys g.index 0)) e (node-at-place _ _ (to g.index h)) in
      record {
        end = g.index;
        listed = h;
        linked = record { node = v; at = t; to = o.to; edge = o.edge };
        joins = record { first = a; last = v; first_at = node-at-place x y from; last_at = t; chain = c.chain };
      }

  -- ---- the claim

  claims : Right G es a
  claims = right G w es a a_in

  led : (line G es a ≡ [] → ⊥) → Joined G x y exs eys
  led n = joined_of (claims.leads n).end (claims.leads n).goal

  pub found-by : Joined G x y exs eys → number G x y exs eys ≡ 0
  found-by j = some-line (claims.found (get_or es j.end 0) (goal-of j))

  pub joined_by : number G x y exs eys ≡ 0 → Joined G x y exs eys
  joined_by z = led (λ e. omega (arith, no_line e))

  pub missed_by : (Joined G x y exs eys → ⊥) → number G x y exs eys ≡ 11
  missed_by n = ⊎_elim no_line (λ f. absurd (n (led f))) (empty? (line G es a))
