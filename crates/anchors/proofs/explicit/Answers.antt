-- The ports by box, then the ends by net.
use Rattle.anchors.specs.Explicit.{port_anchors, explicit}
use Rattle.anchors.specs.Lent.{records_in}
use Rattle.anchors.proofs.Columns.{ports-room}
use Rattle.anchors.proofs.explicit.Goals as goal

pub with_keys-n-requires-clause-room : goal.with_keys-n-requires-clause-room
unfolding port_anchors
with_keys-n-requires-clause-room c = ports-room (records_in c.args.records) _ c.requires.room

pub with_keys-requires-clause-room : goal.with_keys-requires-clause-room
unfolding port_anchors explicit
with_keys-requires-clause-room c = rw (c.with_keys-n.ensures.out_value, c.with_keys-n.auto.out) c.requires.room

pub returns-clause-out_value : goal.returns-clause-out_value
unfolding port_anchors explicit
returns-clause-out_value c = rw c.with_keys-n.ensures.out_value at c.with_keys.ensures.out_value
