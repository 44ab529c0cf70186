-- One box more.
use Rattle.std.proofs.Common.{◌≡◌, ◌∙◌, ◌+◌, ◌-◌, ◌<◌, length, get_or, take, drop, sym, arith}
use lib.ListN.{length-drop}
use lib.Seq.{length-take-le, get_or-take, get_or-drop}
use Rattle.fixed.proofs.Boxes.{no_box, leasts-at, greatests-at}
use Rattle.fixed.specs.Boxes.{across}
use Rattle.sightline.proofs.Bounds.{near-other, near-at}
use Rattle.sightline.proofs.Line.nearest_of.Goals as goal

pub loop-x-init : goal.loop-x-init
loop-x-init c = near-at (omega arith) c.requires.before

pub loop-x-preserved : goal.loop-x-preserved
loop-x-preserved c =
    let boxes = c.args.self.boxes.now in
    let k = c.loop-x.x-index in
    let part : length (take (c.args.to - c.args.from) (drop c.args.from boxes)) ≡ c.args.to - c.args.from
    = length-take-le _ _ (omega (arith, length-drop c.args.from boxes)) in
    let inside : c.args.from + k < length boxes = omega arith in
    let e : get_or (take (c.args.to - c.args.from) (drop c.args.from boxes)) k no_box ≡ get_or boxes (c.args.from + k) no_box
    = get_or-take _ (drop c.args.from boxes) k no_box (omega arith) ∙ get_or-drop c.args.from boxes k no_box in
    let l = leasts-at boxes (across c.args.self.along) (c.args.from + k) no_box inside in
    let h = greatests-at boxes (across c.args.self.along) (c.args.from + k) no_box inside in
    let f = leasts-at boxes c.args.self.along (c.args.from + k) no_box inside in
    let t = greatests-at boxes c.args.self.along (c.args.from + k) no_box inside in
    rw (c.nearer-edge.ensures, c.in_view.ensures)
    (near-at (omega arith) (near-other _ _ _ _ _ _ (c.requires.asked.apart (c.args.from + k) (omega arith) (omega arith)) (rw (l, h, sym e) c.bears.ensures) (rw (f, sym e) c.least-low.ensures) (rw (t, sym e) c.greatest-high.ensures) c.args.ahead _ _ (omega arith) (omega arith) c.loop-x.invariant))

pub returns : goal.returns
returns c =
    let boxes = c.args.self.boxes.now in
    let part : length (take (c.args.to - c.args.from) (drop c.args.from boxes)) ≡ c.args.to - c.args.from
    = length-take-le _ _ (omega (arith, length-drop c.args.from boxes)) in
    let e : c.args.from + c.loop-x.x-index ≡ c.args.to = omega arith in
    near-at e c.loop-x.invariant
