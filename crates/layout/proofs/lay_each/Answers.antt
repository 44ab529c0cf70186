use native.Mathlib.Omega.{arith}
use Rattle.std.proofs.Common.{refl, ◌∙◌}
use Rattle.path_finding.specs.Lent.{graph_in}
use Rattle.path_finding.proofs.Keeping.{kept-refl, kept_trans}
use Rattle.wire.proofs.Keeping.{wires-refl, wires_trans}
use Rattle.net.proofs.Found.{searchable-kept}
use Rattle.layout.proofs.Laying.{nets-none, nets-more, nets-end}
use Rattle.layout.proofs.lay_each.Goals as goal

pub loop-i-init : goal.loop-i-init
loop-i-init c = record {
  value = nets-none _ _ _ _ _;
  fit = record { most = omega arith; half = omega arith };
  kept_wires = wires-refl;
  kept_rows = record { same_rows = refl };
  kept = kept-refl;
}

pub lay_net-requires-clause-searchable : goal.lay_net-requires-clause-searchable
lay_net-requires-clause-searchable c = searchable-kept c.loop-i.invariant.kept c.requires.searchable

pub lay_net-requires-clause-fit : goal.lay_net-requires-clause-fit
lay_net-requires-clause-fit c = let m = c.loop-i.invariant in (m.fit, m.kept_wires.long_ends ∙ c.requires.none.2)

pub loop-i-preserved : goal.loop-i-preserved
loop-i-preserved c =
    let b = c.lay_net.ensures in
    let m = c.loop-i.invariant in
    record {
      value = nets-more (graph_in c.args.finder.now) _ _ _ c.loop-i.i _ _ _ _ m.value refl (rw (← m.kept.same_graph) b.value);
      fit = b.fit;
      kept_wires = wires_trans m.kept_wires b.kept_wires;
      kept_rows = record { same_rows = b.kept_rows.same_rows ∙ m.kept_rows.same_rows };
      kept = kept_trans m.kept b.kept;
    }

pub returns-clause-value : goal.returns-clause-value
returns-clause-value c = nets-end _ _ _ _ _ _ _ _ (omega arith) c.loop-i.invariant.value
