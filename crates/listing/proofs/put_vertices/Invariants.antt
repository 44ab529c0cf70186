use Rattle.fixed.specs.Up.{ups}
use Rattle.listing.specs.Listing.{vertex_line}
use Rattle.listing.proofs.Writing.{Writing}
use Rattle.listing.proofs.put_vertices.Given as goal

abbrev pub invariant-loop-k : goal.invariant-loop-k
invariant-loop-k l = Writing (vertex_line (ups l.page.xs.now) (ups l.page.ys.now) l.page.kinds.now l.net.first) l.net.vertices l.initial.buf l.buf l.at l.next l.k
