use Rattle.nodes.specs.Columns.{graph_of}
use Rattle.nodes.proofs.Maps.{Sought}
use Rattle.nodes.proofs.Map.look_up.Given as goal

abbrev pub invariant-loop-v : goal.invariant-loop-v
invariant-loop-v l = Sought (graph_of l.graph).xs (graph_of l.graph).ys l.graph.count l.x l.y l.v

abbrev pub decreases-loop-v : goal.decreases-loop-v
decreases-loop-v l = l.v
