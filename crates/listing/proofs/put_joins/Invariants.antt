use Rattle.listing.specs.Lent.{page_of, joins_at}
use Rattle.listing.proofs.Writing.{Writing}
use Rattle.listing.proofs.put_joins.Given as goal

abbrev pub invariant-loop-v : goal.invariant-loop-v
invariant-loop-v l = Writing (joins_at (page_of l.page) l.net) l.net.vertices l.initial.buf l.buf l.at l.next l.v
