use Rattle.std.proofs.Common.{◌≡◌, ◌-◌}
use Rattle.wire.specs.Wires.{push_nodes}
use Rattle.wire.specs.Lent.{line_in, wires_of, KeptWires}
use Rattle.wire.proofs.types.Wires.push_nodes.Given as goal

abbrev pub invariant-loop-i : goal.invariant-loop-i
invariant-loop-i l = record {
  value : wires_of l.self ≡ push_nodes (line_in l.line) l.junction (l.i - 1) (wires_of l.initial.self);
  kept : KeptWires l.initial.self l.self;
}
