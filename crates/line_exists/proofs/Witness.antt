-- `LineExists` is not empty: the marked case is one of it, and there it decides both ways.
use mathlib.Core.Path.{refl}
use mathlib.Core.Bool.{true}
use mathlib.Core.List.{[], ◌∷◌}
use Prim.Native.Nat.{ℕ, zero, suc, ◌<◌, ◌≤◌}
use native.Mathlib.Omega.{arith}
use lib.ListN.{get_or}
use Rattle.nodes.specs.Graph.{NODES}
use Rattle.graph.specs.Build.{whole, made}
use Rattle.graph.specs.Cases.{at, one_box, ports}
use Rattle.graph.proofs.Cases as Graphs
use Rattle.astar.specs.Reached.{LIMIT}
use Rattle.line_exists.specs.Exists.{Named, Asked, Decided}
use Rattle.line_exists.specs.Cases.{Witness}
use Rattle.line_exists.proofs.Cases.{cases}
use Rattle.line_exists.proofs.Theorem.{line-exists}

four_nodes : (whole one_box ports).count ≤ NODES
unfolding made
four_nodes = omega (arith, (Graphs.cases).four_nodes)

low : (k : ℕ) → k < 3 → (get_or ports.xs k 0 < LIMIT) × (get_or ports.ys k 0 < LIMIT)
low zero h = (omega arith, omega arith)
low (suc zero) h = (omega arith, omega arith)
low (suc (suc zero)) h = (omega arith, omega arith)
low (suc (suc (suc k))) h = absurd (omega arith)

named : (k : ℕ) → k < 3 → Named ports (get_or ports.xs k 0) (get_or ports.ys k 0)
named k h = record { anchor = k; listed = h; explicit = h; x_is = refl; y_is = refl }

asked : (e : ℕ) → e < 3 → Asked one_box ports (at 0) (at 0) (get_or ports.xs e 0 ∷ []) (get_or ports.ys e 0 ∷ [])
asked e h =
    record { few = four_nodes; x_low = λ k l. (low k l).0; y_low = λ k l. (low k l).1; start = named 0 (omega arith); ends = to }
  where
    to : (k : ℕ) → k < 1 → Named ports (get_or (get_or ports.xs e 0 ∷ []) k 0) (get_or (get_or ports.ys e 0 ∷ []) k 0)
    to zero l = named e h
    to (suc k) l = absurd (omega arith)

second : Decided one_box ports (at 0) (at 0) (at 20 ∷ []) (at 0 ∷ [])
second = line-exists _ _ _ _ _ _ (asked 1 (omega arith))

third : Decided one_box ports (at 0) (at 0) (at 10 ∷ []) (at 40 ∷ [])
third = line-exists _ _ _ _ _ _ (asked 2 (omega arith))

pub witness : Witness
witness =
    record {
      asked_second = asked 1 (omega arith);
      asked_third = asked 2 (omega arith);
      joined_second = second.joined true cases.second;
      apart_third = λ j. omega (arith, third.found true j, cases.third);
    }
