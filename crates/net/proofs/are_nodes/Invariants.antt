use Rattle.std.proofs.Common.{◌≡◌}
use Rattle.nodes.specs.Columns.{graph_of}
use Rattle.path_finding.specs.Places.{known_to}
use Rattle.wire.specs.Lent.{xs_of, ys_of}
use Rattle.net.proofs.are_nodes.Given as goal

abbrev pub invariant-loop-p : goal.invariant-loop-p
invariant-loop-p l = l.known ≡ known_to (graph_of l.graph) (xs_of l.points) (ys_of l.points) l.p-index
