-- A vertex's junctions a turn.
use native.Mathlib.Omega.{arith}
use Rattle.listing.proofs.Writing.{writing_begins, writing-room, writing-on}
use Rattle.listing.proofs.put_joins.Goals as goal

pub loop-v-init : goal.loop-v-init
loop-v-init c = writing_begins _ _ _ _ c.requires

pub put_joins_of-next-requires : goal.put_joins_of-next-requires
put_joins_of-next-requires c = writing-room c.loop-v.invariant (omega arith)

pub loop-v-preserved : goal.loop-v-preserved
loop-v-preserved c = writing-on c.loop-v.invariant _ _ (omega arith) c.put_joins_of-next.ensures c.put_joins_of-next.auto.buf
