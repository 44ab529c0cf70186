use native.Mathlib.Omega.{arith}
use Rattle.wire.specs.Lent.{wires_of}
use Rattle.wire.proofs.Pushes.{start-ends-pushed, end-m}
use Rattle.wire.proofs.types.Wires.push_start_ends.Goals as goal

pub push_end-requires-2 : goal.push_end-requires-2
push_end-requires-2 c = let e = end-m (wires_of c.args.self.now) (wires_of c.push_end.new.self) _ _ _ _ c.push_end.ensures.value in (omega arith, omega arith)

pub returns-clause-value : goal.returns-clause-value
returns-clause-value c = start-ends-pushed (wires_of c.args.self.now) (wires_of c.push_end.new.self) _ _ _ _ _ c.place_at-at.ensures.x_value c.place_at-at.ensures.y_value c.push_end.ensures.value c.push_end-2.ensures.value
