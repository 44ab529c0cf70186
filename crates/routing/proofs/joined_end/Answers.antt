use native.Mathlib.Omega.{arith}
use Rattle.wire.specs.Lent.{wires_of}
use Rattle.routing.proofs.Alike.{end-there}
use Rattle.routing.proofs.Tries.{joined-nearest, joined_at}
use Rattle.routing.proofs.joined_end.Goals as goal

pub returns-then-line-eq0 : goal.returns-then-line-eq0
returns-then-line-eq0 c =
    end-there _ _ _ _ _ _ _ (omega (arith, c.nearest_end-nearest.ensures.below)) (joined-nearest _ _ _ (wires_of c.args.wires.now).net _ c.if-line-eq0.true c.nearest_end-nearest.ensures.value)

pub returns : goal.returns
returns c =
    end-there _ _ _ _ _ _ _ (omega (arith, c.junction_end-first.ensures.below)) (joined_at _ _ _ (wires_of c.args.wires.now).net _ _ _ c.if-line-eq0.false c.place_at-end.ensures.x_value c.place_at-end.ensures.y_value c.junction_end-first.ensures.value)
