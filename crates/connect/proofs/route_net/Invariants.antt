use Rattle.std.proofs.Common.{◌≡◌, ◌+◌}
use Rattle.connect.specs.Turns.{turns_to}
use Rattle.net.specs.Lent.{made_of}
use Rattle.path_finding.specs.Lent.{graph_in, Kept}
use Rattle.routing.specs.Lent.{KeptRows}
use Rattle.wire.specs.Lent.{xs_of, ys_of, KeptWires}
use Rattle.connect.proofs.route_net.Given as goal

abbrev pub invariant-loop-i : goal.invariant-loop-i
invariant-loop-i l = record {
  value : made_of 0 l.wires l.joins ≡ turns_to (graph_in l.fn.finder) (xs_of l.points) (ys_of l.points) l.a l.b (l.i + 1) (made_of 0 l.fn.wires l.fn.joins);
  kept_wires : KeptWires l.fn.wires l.wires;
  kept_rows : KeptRows l.fn.joins l.joins;
  kept : Kept l.fn.finder l.finder;
}
