use Rattle.std.proofs.Common.{◌≡◌, take}
use Rattle.fixed.specs.Up.{ups}
use Rattle.path_finding.specs.Line.{table, place_at}
use Rattle.path_finding.proofs.write_places.Given as goal

abbrev pub invariant-loop-k : goal.invariant-loop-k
invariant-loop-k l = take l.k (ups l.to) ≡ table (place_at (ups l.coordinates) l.line) l.k
