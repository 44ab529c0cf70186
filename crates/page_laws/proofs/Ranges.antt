-- The nodes of a graph stand from lo to hi if its anchors do, and a page with no vertex is a page.
use mathlib.Core.Path.{◌≡◌}
use mathlib.Core.Bool.{Bool}
use mathlib.Core.List.{List}
use Prim.Native.Nat.{ℕ, ◌*◌, ◌<◌, ◌≤◌}
use native.Mathlib.Omega.{arith}
use lib.ListN.{length, get_or, take}
use Rattle.nodes.specs.Graph.{Graph, NODES}
use Rattle.nodes.specs.Wf.{Wf}
use Rattle.scan.specs.Scan.{Anchors}
use Rattle.graph.specs.Build.{Boxes, whole, made}
use Rattle.graph.proofs.Theorem.{made-wf}
use Rattle.astar.specs.Reached.{LIMIT}
use Rattle.graph.proofs.Coordinates.{Stands, each_all, made-stands}
use Rattle.vertex.specs.Pages.{rows, Within}
use Rattle.wire.specs.Wires.{Vertices}
use Rattle.net_laws.specs.Laid.{Roomy}
use Rattle.page_laws.specs.Connected.{Ground, Page}

-- a well formed graph whose nodes stand from lo to hi
pub ranged-ground : (lo hi : ℕ) → hi < LIMIT → (G : Graph) → Wf G → Within lo hi G.count G.xs → Within lo hi G.count G.ys → Ground lo hi G
ranged-ground lo hi fits G w nx ny =
    record {
      ready = λ h. record { some = h; wf = w; x_low = each_all (λ u. u < LIMIT) G.xs (omega arith) (λ k l. omega (arith, nx.high k (omega arith))); y_low = each_all (λ u. u < LIMIT) G.ys (omega arith) (λ k l. omega (arith, ny.high k (omega arith))) };
      near_x = nx;
      near_y = ny;
    }

module _ (lo hi : ℕ) (fits : hi < LIMIT) (b : Boxes) (s : Anchors) (pruned : Bool) (few : (whole b s).count ≤ NODES)
    (hx : (k : ℕ) → k < s.count → (lo ≤ get_or s.xs k 0) × (get_or s.xs k 0 ≤ hi)) (hy : (k : ℕ) → k < s.count → (lo ≤ get_or s.ys k 0) × (get_or s.ys k 0 ≤ hi)) where
  abbrev Near : ℕ → Type 0
  Near c = (lo ≤ c) × (c ≤ hi)

  stands : Stands Near Near (made b s pruned)
  stands = made-stands Near Near b s pruned few hx hy

  pub made-ground : Ground lo hi (made b s pruned)
  made-ground =
      let w = made-wf b s pruned few in
      let lx : length (made b s pruned).xs ≡ (made b s pruned).count = w.good.x_long in
      let ly : length (made b s pruned).ys ≡ (made b s pruned).count = w.good.y_long in
      ranged-ground lo hi fits (made b s pruned) w
      (record { low = λ v h. (stands.xs_are v (omega arith)).0; high = λ v h. (stands.xs_are v (omega arith)).1 })
      (record { low = λ v h. (stands.ys_are v (omega arith)).0; high = λ v h. (stands.ys_are v (omega arith)).1 })

-- with no vertex and no junction
pub blank-page : (lo hi : ℕ) (P : Vertices) (R : List ℕ) → P.n ≡ 0 → Roomy P → 768 ≤ length R → Page lo hi P R 0
blank-page lo hi P R e roomy long =
    record {
      good =
          record {
            wired = record { first = λ h. absurd (omega arith); next = λ i h. absurd (omega arith); last = λ h. absurd (omega arith) };
            joined = record { after = λ j h. absurd (none j h); inside = λ j h. absurd (none j h) };
            ended = record { joins = λ j h. absurd (none j h) };
            lettered = record { letter = λ j h. absurd (none j h) };
            near_x = record { low = λ i h. absurd (omega arith); high = λ i h. absurd (omega arith) };
            near_y = record { low = λ i h. absurd (omega arith); high = λ i h. absurd (omega arith) };
          };
      few = omega arith;
      few_joins = omega arith;
      roomy = roomy;
      rows_long = long;
    }
  where
    none : (j : ℕ) → j < rows (take (3 * 0) R) → ⊥
    none j h = omega arith
