use Rattle.std.proofs.Common.{◌≡◌, ◌+◌, ◌-◌}
use Rattle.wire.specs.Lines.{kept_to}
use Rattle.wire.specs.Lent.{line_in}
use Rattle.wire.proofs.types.Line.vertices.Given as goal

abbrev pub invariant-loop-i : goal.invariant-loop-i
invariant-loop-i l = l.total ≡ 3 + kept_to (line_in l.self) (l.i - 1)
