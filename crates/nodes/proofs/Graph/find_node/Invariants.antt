-- None that the loops have passed stands there.
use Rattle.std.proofs.Common.{◌≡◌, false, ℕ, ◌-◌, ◌<◌, ◌≤◌}
use Rattle.nodes.specs.Graph.{stands}
use Rattle.nodes.specs.Columns.{graph_of}
use Rattle.nodes.proofs.Graph.find_node.Given as goal

abbrev pub invariant-loop-start : goal.invariant-loop-start
invariant-loop-start l = (l.start ≤ l.self.count) × ((k : ℕ) → k < l.start → stands (graph_of l.self).xs (graph_of l.self).ys l.x l.y k ≡ false)

abbrev pub decreases-loop-start : goal.decreases-loop-start
decreases-loop-start l = l.self.count - l.start

abbrev pub invariant-loop-i : goal.invariant-loop-i
invariant-loop-i l = (k : ℕ) → k < l.i → stands (graph_of l.self).xs (graph_of l.self).ys l.x l.y k ≡ false
