-- Three pieces, one behind another.
use native.Mathlib.Omega.{arith}
use Rattle.listing.specs.Listing.{net_line, net_part}
use Rattle.listing.specs.Lent.{page_of, vertices_of, all_joins}
use Rattle.listing.proofs.Pieces.{three, put_3}
use Rattle.listing.proofs.put_net.Goals as goal

pub returns : goal.returns
unfolding net_part
returns c = put_3 _ _ _ _ _ _ _ _ _ _ _ c.put_net_line-line.ensures c.put_vertices-wires.ensures c.put_joins.ensures (omega (arith, c.requires, three (net_line c.args.net.id c.args.net.number c.args.net.vertices c.args.net.junctions) (vertices_of (page_of c.args.page) c.args.net) (all_joins (page_of c.args.page) c.args.net)))
