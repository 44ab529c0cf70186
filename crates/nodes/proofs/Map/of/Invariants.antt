use Rattle.std.proofs.Common.{◌≡◌, length}
use Rattle.nodes.specs.Buckets.{BUCKETS}
use Rattle.nodes.specs.Graph.{NODES}
use Rattle.nodes.specs.Columns.{graph_of}
use Rattle.nodes.specs.Map.{Mapped}
use Rattle.nodes.proofs.Map.of.Given as goal

abbrev pub invariant-loop-i : goal.invariant-loop-i
invariant-loop-i l =
    record { first_long : length l.map.first ≡ BUCKETS; next_long : length l.map.next ≡ NODES; mapped : Mapped l.map (graph_of l.graph).xs (graph_of l.graph).ys l.i }
