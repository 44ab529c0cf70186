-- A net a turn.
use native.Mathlib.Omega.{arith}
use Rattle.listing.specs.Listing.{net_at, listing}
use Rattle.listing.proofs.Writing.{writing_begins, writing-room, writing-on, written_all}
use Rattle.listing.proofs.Room.{first}
use Rattle.listing.proofs.write_listing.Goals as goal

pub loop-i-init : goal.loop-i-init
unfolding listing
loop-i-init c = writing_begins _ _ _ 0 (omega (arith, c.requires.n_in_bounds))

pub put_net-next-requires : goal.put_net-next-requires
unfolding net_at
put_net-next-requires c = rw c.net.ensures (writing-room c.loop-i.invariant (omega arith))

pub loop-i-preserved : goal.loop-i-preserved
unfolding net_at
loop-i-preserved c = writing-on c.loop-i.invariant _ _ (omega arith) (rw c.net.ensures at c.put_net-next.ensures) c.put_net-next.auto.buf

pub returns : goal.returns
unfolding listing
returns c = let p = written_all c.loop-i.invariant (omega arith) in record { put = p; first = first _ _ _ _ p c.loop-i.invariant.long c.requires.n_in_bounds }
