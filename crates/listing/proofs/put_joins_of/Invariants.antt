use Rattle.listing.specs.Listing.{join_from}
use Rattle.listing.proofs.Writing.{Writing}
use Rattle.listing.proofs.put_joins_of.Given as goal

abbrev pub invariant-loop-j : goal.invariant-loop-j
invariant-loop-j l = Writing (join_from l.page.junctions.now l.net.first l.v l.net.begin) l.net.junctions l.initial.buf l.buf l.at l.next l.j
