use Rattle.std.proofs.Common.{sym}
use Rattle.std.proofs.Math.ListN.{get_or-map}
use Rattle.path_finding.proofs.Laws.{known-begin}
use Rattle.wire.specs.declared.types.Place.{Place}
use Rattle.net.proofs.Leaves.{known-next}
use Rattle.net.proofs.are_nodes.Goals as goal

pub loop-p-init : goal.loop-p-init
loop-p-init c = known-begin _ _ _ _ _

pub loop-p-preserved : goal.loop-p-preserved
loop-p-preserved c =
    let ps = c.args.points.now in
    let i = c.loop-p.p-index in
    rw c.is_some-known.ensures
    (known-next _ _ _ _ _ _ _ _ c.loop-p.invariant (sym (get_or-map (λ (p : Place). p.x) ps i (record { x = 0; y = 0 }))) (sym (get_or-map (λ (p : Place). p.y) ps i (record { x = 0; y = 0 }))) c.find_node.ensures)
