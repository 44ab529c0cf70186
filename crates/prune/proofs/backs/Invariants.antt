use Rattle.nodes.specs.Columns.{graph_of}
use Rattle.prune.proofs.Lent.{Backed}
use Rattle.prune.proofs.backs.Given as goal

-- the neighbours in the directions that the loop has passed link back
abbrev pub invariant-loop-d : goal.invariant-loop-d
invariant-loop-d l = Backed (graph_of l.initial.graph) (graph_of l.graph) l.i l.d
