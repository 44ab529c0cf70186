-- What was put in rises strictly.
use Rattle.std.proofs.Common.{arith}
use Rattle.axis.proofs.Axis.{none-strict, insert-strict}
use Rattle.axis.proofs.tests.inserts_each_once.Goals as goal

pub insert-n-requires-3 : goal.insert-n-requires-3
insert-n-requires-3 g c =
    (omega arith, rw (c.insert-n-2.ensures.axis_value, c.insert-n.ensures.axis_value) (insert-strict _ _ (insert-strict _ _ none-strict)))

pub insert-n-requires-4 : goal.insert-n-requires-4
insert-n-requires-4 g c =
    (omega arith, rw (c.insert-n-3.ensures.axis_value, c.insert-n-2.ensures.axis_value, c.insert-n.ensures.axis_value) (insert-strict _ _ (insert-strict _ _ (insert-strict _ _ none-strict))))
