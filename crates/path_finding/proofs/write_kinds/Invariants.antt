use Rattle.std.proofs.Common.{◌≡◌, take}
use Rattle.path_finding.specs.Line.{table, kind_at}
use Rattle.path_finding.proofs.write_kinds.Given as goal

abbrev pub invariant-loop-k : goal.invariant-loop-k
invariant-loop-k l = take l.k l.to ≡ table (kind_at l.m) l.k
