-- Nodes stand at coordinates that lie below a bound: so does what is read past the last node.
use Prim.Native.Nat.{ℕ, ◌<◌}
use Rattle.nodes.specs.Graph.{Graph, X, Y}
use Rattle.graph.proofs.Coordinates.{Stands, each_all}

module _ (m : ℕ) (some : 0 < m) where
  abbrev pub Below : ℕ → Type 0
  Below u = u < m

  pub record Lows (g : Graph) : Type 0 where
    pub x_low : (k : ℕ) → X g k < m
    pub y_low : (k : ℕ) → Y g k < m

  pub stands-low : (g : Graph) → Stands Below Below g → Lows g
  stands-low g s = record { x_low = each_all Below g.xs some s.xs_are; y_low = each_all Below g.ys some s.ys_are }
