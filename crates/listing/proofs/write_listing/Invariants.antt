use Rattle.listing.specs.Listing.{net_at}
use Rattle.listing.specs.Lent.{page_of}
use Rattle.listing.proofs.Writing.{Writing}
use Rattle.listing.proofs.write_listing.Given as goal

abbrev pub invariant-loop-i : goal.invariant-loop-i
invariant-loop-i l = Writing (net_at (page_of l.page)) l.n l.initial.buf l.buf 0 l.next l.i
