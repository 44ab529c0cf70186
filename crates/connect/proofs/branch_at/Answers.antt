use Rattle.std.proofs.Common.{refl}
use Rattle.std.proofs.Math.ListN.{get_or-map}
use Rattle.net.proofs.Branching.{at-root, at-branch}
use Rattle.net.specs.Lent.{made_of}
use Rattle.wire.specs.declared.types.Place.{Place}
use Rattle.connect.proofs.branch_at.Goals as goal

pub returns-then-i-a-clause-value : goal.returns-then-i-a-clause-value
returns-then-i-a-clause-value c = at-root _ _ _ _ _ _ (made_of 0 c.args.wires.now c.args.joins.now) refl c.if-i-a.true

pub returns-clause-value : goal.returns-clause-value
returns-clause-value c =
    let ps = c.args.points.now in
    at-branch _ _ _ _ _ _ (made_of 0 c.args.wires.now c.args.joins.now) _ 0 refl c.if-i-a.false
    (rw (get_or-map (λ (p : Place). p.x) ps c.args.i (record { x = 0; y = 0 }), get_or-map (λ (p : Place). p.y) ps c.args.i (record { x = 0; y = 0 })) c.branch-finder.ensures.value)
