use Rattle.nodes.specs.Columns.{graph_of}
use Rattle.prune.proofs.Lent.{Pruning}
use Rattle.prune.proofs.remove_redundant_nodes.Given as goal

abbrev pub invariant-loop-i : goal.invariant-loop-i
invariant-loop-i l = Pruning (graph_of l.initial.graph) l.initial.graph.count (graph_of l.graph) l.i
