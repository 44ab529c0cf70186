-- A row's line a turn.
use native.Mathlib.Omega.{arith}
use Rattle.listing.specs.Listing.{join_from, joins_of}
use Rattle.listing.proofs.Writing.{writing_begins, writing-room, writing-on, written_all}
use Rattle.listing.proofs.put_joins_of.Goals as goal

pub loop-j-init : goal.loop-j-init
unfolding joins_of
loop-j-init c = writing_begins _ _ _ _ c.requires

pub put_join_at-next-requires : goal.put_join_at-next-requires
unfolding join_from
put_join_at-next-requires c = record { r_in_bounds = writing-room c.loop-j.invariant (omega arith); r_bound = omega arith }

pub loop-j-preserved : goal.loop-j-preserved
unfolding join_from
loop-j-preserved c = writing-on c.loop-j.invariant _ _ (omega arith) c.put_join_at-next.ensures c.put_join_at-next.auto.buf

pub returns : goal.returns
unfolding joins_of
returns c = written_all c.loop-j.invariant (omega arith)
