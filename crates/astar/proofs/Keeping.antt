-- A `Search` that keeps its graph and ends, and a turn of it.
use Rattle.std.proofs.Common.{◌≡◌, ℕ, ◌<◌, ◌≤◌, List, Bool, Some, get_or, ap, ◌∙◌, sym, Bor}
use Rattle.queue.specs.Queue.{popped}
use Rattle.nodes.specs.Graph.{none}
use Rattle.nodes.specs.Columns.{graph_of}
use Rattle.nodes.specs.declared.Graph.{Graph as Store}
use Rattle.astar.specs.Search.{HIGH, St, IsNode, holds, expand, pop, search}
use Rattle.astar.specs.Reached.{Ready}
use Rattle.astar.specs.Scratch.{marked, Marked}
use Rattle.astar.specs.declared.Search.{Search}
use Rattle.astar.specs.Lent.{graph_in, ends_in, preds_in, state_in, Kept}
use Rattle.astar.proofs.Roads.{roads}
use Rattle.astar.proofs.State.{mu}
use Rattle.astar.proofs.Turn.{Going, going-in, going-low, going-pred, going-hit, going_less, going_on, marked-yes, marked-no}

pub kept_trans : {a b c : Search} → Kept a b → Kept b c → Kept a c
kept_trans k l =
    record { same_graph = l.same_graph ∙ k.same_graph; same_ends = l.same_ends ∙ k.same_ends; same_cells = l.same_cells ∙ k.same_cells; same_tree = l.same_tree ∙ k.same_tree }

module _ {a b : Search} (k : Kept a b) where
  inside-kept : {u : ℕ} → u < a.graph.now.count → u < b.graph.now.count
  inside-kept h = rw (ap (λ (r : Bor Store). r.now.count) k.same_graph) h

  ends-kept : ends_in b ≡ ends_in a
  ends-kept = ap (λ (r : Bor (List ℕ)). r.now) k.same_ends

  holds-kept : (u : ℕ) {t : Bool} → holds u (ends_in b) ≡ t → holds u (ends_in a) ≡ t
  holds-kept u h = ap (λ (l : List ℕ). holds u l) (sym ends-kept) ∙ h

  expand-kept : (t s : St) (u : ℕ) → t ≡ expand (graph_in b) (ends_in b) s u → t ≡ expand (graph_in a) (ends_in a) s u
  expand-kept t s u h =
      h ∙ ap (λ (r : Bor Store). expand (graph_of r.now) (ends_in b) s u) k.same_graph ∙ ap (λ (l : List ℕ). expand (graph_in a) l s u) ends-kept

-- a turn of the search a from the state s: u leaves the queue, and p is left
module _ {a p : Search} (w : Ready (graph_in a)) {start : ℕ} {s : St} (K : Going a.graph.now.count (graph_in a) (ends_in a) start s) (k : Kept a p)
    {u : ℕ} (e : Some u ≡ popped s.q) (f : state_in p ≡ pop s) where
  pub turn-in : u < p.graph.now.count
  turn-in = inside-kept k (going-in _ _ (roads _ w) _ _ _ K _ f u e)

  pub turn-low : get_or (state_in p).g u 0 ≤ HIGH
  turn-low = going-low _ _ (roads _ w) _ _ _ K _ f u e

  pub turn-pred : (get_or (preds_in p) u 0 ≡ none → ⊥) → get_or (preds_in p) u 0 < p.graph.now.count
  turn-pred some = inside-kept k (going-pred _ _ (roads _ w) _ _ _ K _ f u e some)

  module _ (m : Marked p.graph.now.count (ends_in p) (marked p.graph.now.count p.cells.now)) {x : ℕ} (ex : x ≡ get_or (marked p.graph.now.count p.cells.now) u 0) where
    pub turn-hit : (x ≡ 0 → ⊥) → IsNode (Some u) (search (graph_in a) (ends_in a) start).at × (state_in p ≡ (search (graph_in a) (ends_in a) start).end)
    turn-hit h = going-hit _ _ (roads _ w) _ _ _ K _ f u e (holds-kept k u (marked-yes _ _ _ m u turn-in x ex h))

    module _ (h : x ≡ 0) {t : St} (g : t ≡ expand (graph_in p) (ends_in p) (state_in p) u) where
      pub turn-less : mu t < mu s
      turn-less = going_less _ _ (roads _ w) _ _ _ K _ f u e (holds-kept k u (marked-no _ _ _ m u turn-in x ex h)) _ (expand-kept k _ _ u g)

      pub turn-on : Going a.graph.now.count (graph_in a) (ends_in a) start t
      turn-on = going_on _ _ (roads _ w) _ _ _ K _ f u e (holds-kept k u (marked-no _ _ _ m u turn-in x ex h)) _ (expand-kept k _ _ u g)
