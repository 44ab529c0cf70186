-- While none of those asked stands there, the answer is false.
use Rattle.std.proofs.Common.{◌≡◌, false, ℕ, ◌+◌, ◌<◌, ◌≤◌}
use Rattle.nodes.specs.Graph.{stands}
use Rattle.nodes.specs.Columns.{graph_of}
use Rattle.nodes.proofs.Graph.any_of.Given as goal

abbrev pub invariant-loop-k : goal.invariant-loop-k
invariant-loop-k l = l.met ≡ false → (k : ℕ) → l.a ≤ k → k < l.a + l.k → stands (graph_of l.self).xs (graph_of l.self).ys l.x l.y k ≡ false
