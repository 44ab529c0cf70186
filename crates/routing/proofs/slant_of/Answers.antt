use Rattle.std.proofs.Math.ListN.{get_or-map}
use Rattle.std.proofs.Common.{length, ◌/◌, ◌%◌}
use Rattle.routing.specs.Roots.{slant, slant_of}
use Rattle.wire.specs.declared.types.Place.{Place}
use Rattle.routing.proofs.slant_of.Goals as goal

pub returns : goal.returns
unfolding slant slant_of
returns c =
    let ps = c.args.points.now in
    let a = c.args.p / length ps in
    let b = c.args.p % length ps in
    rw (c.gap-3.ensures, c.gap.ensures, c.gap-2.ensures, get_or-map (λ (p : Place). p.x) ps a (record { x = 0; y = 0 }), get_or-map (λ (p : Place). p.x) ps b (record { x = 0; y = 0 }), get_or-map (λ (p : Place). p.y) ps a (record { x = 0; y = 0 }), get_or-map (λ (p : Place). p.y) ps b (record { x = 0; y = 0 }))
