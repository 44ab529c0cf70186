use Rattle.std.proofs.Common.{◌≡◌, take}
use Rattle.nodes.specs.Columns.{graph_of}
use Rattle.path_finding.specs.Line.{table, direction_at}
use Rattle.path_finding.proofs.write_directions.Given as goal

abbrev pub invariant-loop-k : goal.invariant-loop-k
invariant-loop-k l = take l.k l.to ≡ table (direction_at (graph_of l.graph).links l.line) l.k
