-- `desk::validate` meets its contract. The tests in their order.
use Rattle.desk.proofs.Whole
use Rattle.desk.proofs.validate.Goals as goal

pub returns-then-desk-lt-DESK : goal.returns-then-desk-lt-DESK
returns-then-desk-lt-DESK c = Whole.test-1 _ c.if-desk-lt-DESK.true

pub returns-then-not-ok_desk : goal.returns-then-not-ok_desk
returns-then-not-ok_desk c = Whole.test-2 _ c.if-desk-lt-DESK.false _ c.ok_desk.ensures c.if-not-ok_desk.true

pub returns : goal.returns
returns c = Whole.test-0 _ c.if-desk-lt-DESK.false _ c.ok_desk.ensures c.if-not-ok_desk.false
