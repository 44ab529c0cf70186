use Rattle.std.proofs.Common.{arith}
use Rattle.desk_search.proofs.Tests.{steps-fail, steps-pass, steps-done}
use Rattle.desk_search.proofs.ok_steps.Goals as goal

pub returns-then-not-ok_step : goal.returns-then-not-ok_step
returns-then-not-ok_step c = steps-fail _ c.loop-i.i c.loop-i.invariant (omega arith) _ _ c.at.ensures c.ok_step.ensures c.if-not-ok_step.true

pub loop-i-preserved : goal.loop-i-preserved
loop-i-preserved c = steps-pass _ c.loop-i.i c.loop-i.invariant (omega arith) _ _ c.at.ensures c.ok_step.ensures c.if-not-ok_step.false

pub returns : goal.returns
returns c = steps-done _ c.loop-i.i c.loop-i.invariant (omega arith)
