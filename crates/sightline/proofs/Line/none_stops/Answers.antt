-- One box more.
use Rattle.std.proofs.Common.{◌≡◌, length, refl, ap, not, arith}
use Rattle.fixed.proofs.Boxes.{no_box, leasts-at, greatests-at}
use Rattle.fixed.specs.Boxes.{across}
use Rattle.sightline.specs.Count.{any}
use Rattle.sightline.specs.Sight.{box_stops, stops, blocked}
use Rattle.sightline.proofs.Counting.{any-more}
use Rattle.sightline.proofs.Line.none_stops.Goals as goal

pub loop-i-init : goal.loop-i-init
unfolding any
loop-i-init c = refl

pub loop-i-preserved : goal.loop-i-preserved
unfolding box_stops stops
loop-i-preserved c =
    let l = leasts-at c.args.self.boxes.now (across c.args.self.along) c.loop-i.i no_box c.loop-i-test.true in
    let h = greatests-at c.args.self.boxes.now (across c.args.self.along) c.loop-i.i no_box c.loop-i-test.true in
    let f = leasts-at c.args.self.boxes.now c.args.self.along c.loop-i.i no_box c.loop-i-test.true in
    let t = greatests-at c.args.self.boxes.now c.args.self.along c.loop-i.i no_box c.loop-i-test.true in
    any-more _ _ _ _ (rw (c.bears.ensures, c.least.ensures, c.greatest.ensures, l, h, f, t)) c.loop-i.invariant

pub returns : goal.returns
unfolding blocked
returns c = let e : c.loop-i.i ≡ length c.args.self.boxes.now = omega arith in ap not (rw e at c.loop-i.invariant)
