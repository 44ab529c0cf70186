-- The invariant: the nets so far are those of the definition, they fit, and what is lent stays.
use Rattle.std.proofs.Common.{◌≡◌}
use Rattle.anchors.specs.Lent.{records_in}
use Rattle.layout.specs.Layout.{nets_to, Fit}
use Rattle.layout.specs.Lent.{page_of}
use Rattle.path_finding.specs.Lent.{graph_in, Kept}
use Rattle.routing.specs.Lent.{KeptRows}
use Rattle.wire.specs.Lent.{KeptWires}
use Rattle.layout.proofs.lay_each.Given as goal

abbrev pub invariant-loop-i : goal.invariant-loop-i
invariant-loop-i l = record {
  value : page_of l.nets l.wires l.joins ≡ (let r = records_in l.records in nets_to (graph_in l.fn.finder) r.nets r.ends r.end_count l.i (page_of l.fn.nets l.fn.wires l.fn.joins));
  fit : Fit l.wires.n l.joins.j;
  kept_wires : KeptWires l.fn.wires l.wires;
  kept_rows : KeptRows l.fn.joins l.joins;
  kept : Kept l.fn.finder l.finder;
}
