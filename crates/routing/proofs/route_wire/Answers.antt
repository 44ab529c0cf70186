use Rattle.wire.specs.Lent.{wires_of}
use Rattle.routing.proofs.Tries.{route-fallback, route-line}
use Rattle.routing.proofs.route_wire.Goals as goal

pub returns-then-line-eq0-clause-value : goal.returns-then-line-eq0-clause-value
returns-then-line-eq0-clause-value c = route-fallback _ _ _ _ _ _ _ _ (wires_of c.args.wires.now) _ c.if-line-eq0.true c.fallback_wire.ensures.value

pub returns-clause-value : goal.returns-clause-value
returns-clause-value c = route-line _ _ _ _ _ _ _ _ (wires_of c.args.wires.now) _ c.if-line-eq0.false c.line_wire.ensures.value
