-- A line is found exactly if there is one: the search's claim on the graph that is handed back, and what pruning keeps of the whole one.
use mathlib.Core.Path.{◌≡◌, sym, ◌∙◌}
use mathlib.Core.Bool.{Bool, true, false}
use mathlib.Core.List.{List}
use Prim.Native.Nat.{ℕ, ◌<◌}
use native.Mathlib.Decide.{ℕ_discrete}
use native.Mathlib.Omega.{arith}
use lib.ListN.{length, get_or}
use Rattle.nodes.specs.Chains.{Place, Keeps}
use Rattle.nodes.specs.Graph.{Graph}
use Rattle.scan.specs.Scan.{Anchors}
use Rattle.graph.specs.Build.{Boxes, whole, made}
use Rattle.graph.proofs.Coordinates.{made-stands}
use Rattle.graph.proofs.Theorem.{made-wf, made-keeps, made-explicit}
use Rattle.astar.specs.Reached.{LIMIT, Ready}
use Rattle.path_finding.specs.Places.{number}
use Rattle.line_exists.specs.Exists.{Named, Asked, Joined, LineExists}
use Rattle.line_exists.proofs.Low.{Below, stands-low}
use Rattle.line_exists.proofs.Between.{found-by, joined_by, missed_by}

module _ (b : Boxes) (s : Anchors) (x y : ℕ) (exs eys : List ℕ) (q : Asked b s x y exs eys) where
  module _ (pruned : Bool) where
    abbrev G : Graph
    G = made b s pruned

    keeps : Keeps (whole b s) G
    keeps = made-keeps b s pruned q.few

    named : (u v : ℕ) → Named s u v → Place G u v
    named u v n =
        let t = made-explicit b s pruned q.few n.anchor n.listed n.explicit in
        record { node = t.node; at = record { inside = t.at.inside; at_x = t.at.at_x ∙ n.x_is; at_y = t.at.at_y ∙ n.y_is } }

    from : Place G x y
    from = named x y q.start

    to : (k : ℕ) → k < length exs → Place G (get_or exs k 0) (get_or eys k 0)
    to k h = named _ _ (q.ends k h)

    ready : Ready G
    ready =
        let f = made-wf b s pruned q.few in
        let l = stands-low LIMIT (omega arith) G (made-stands (Below LIMIT (omega arith)) (Below LIMIT (omega arith)) b s pruned q.few q.x_low q.y_low) in
        record { some = omega (arith, from.at.inside); wf = f; x_low = l.x_low; y_low = l.y_low }

    -- joined in the one graph exactly if in the other
    kept : Joined (whole b s) x y exs eys → Joined G x y exs eys
    kept j =
        record { end = j.end; listed = j.listed; linked = keeps.link_kept _ _ (to j.end j.listed) j.linked; joins = keeps.joins_kept x y _ _ from (to j.end j.listed) j.joins }

    old : Joined G x y exs eys → Joined (whole b s) x y exs eys
    old j =
        record { end = j.end; listed = j.listed; linked = keeps.link_old _ _ j.linked; joins = keeps.joins_old x y _ _ j.joins }

    found : Joined (whole b s) x y exs eys → number G x y exs eys ≡ 0
    found j = found-by G ready x y exs eys from to (kept j)

    joined : number G x y exs eys ≡ 0 → Joined (whole b s) x y exs eys
    joined e = old (joined_by G ready x y exs eys from to e)

    missed : (Joined (whole b s) x y exs eys → ⊥) → number G x y exs eys ≡ 11
    missed n = missed_by G ready x y exs eys from to (λ j. n (old j))

  same : number (made b s true) x y exs eys ≡ number (made b s false) x y exs eys
  same = go (ℕ_discrete (number (made b s true) x y exs eys) 0)
    where
      go : Dec (number (made b s true) x y exs eys ≡ 0) → number (made b s true) x y exs eys ≡ number (made b s false) x y exs eys
      go (yes e) = e ∙ sym (found false (joined true e))
      go (no n) = let f : Joined (whole b s) x y exs eys → ⊥ = λ j. n (found true j) in missed true f ∙ sym (missed false f)

pub line-exists : LineExists
line-exists b s x y exs eys q =
    record { found = found b s x y exs eys q; joined = joined b s x y exs eys q; missed = missed b s x y exs eys q; same = same b s x y exs eys q }
