-- A laid-out page as its lists are lent, and the row of one net in it.
use Rattle.std.specs.Prelude.{ℕ, List, ◌+◌, ◌*◌, get_or}
use Rattle.fixed.specs.Up.{ups}
use Rattle.listing.specs.Listing.{Page, page, NET, up_to, vertex_line, joins_of, net_part}
use Rattle.listing.specs.declared.Net.{Net}
use Rattle.listing.specs.declared.Page as lent

abbrev pub page_of : lent.Page → Page
page_of p = page p.nets.now p.ids.now (ups p.xs.now) (ups p.ys.now) p.kinds.now p.junctions.now

abbrev pub net_of : Page → ℕ → Net
net_of p i =
    record {
      id = get_or p.ids i 0;
      number = get_or p.nets (i * NET) 0;
      first = get_or p.nets (i * NET + 1) 0;
      vertices = get_or p.nets (i * NET + 2) 0;
      begin = get_or p.nets (i * NET + 3) 0;
      junctions = get_or p.nets (i * NET + 4) 0;
    }

-- what is printed of a net: all, its vertices, and its junctions, of one vertex and of all
abbrev pub part_of : Page → Net → List ℕ
part_of p net = net_part p net.id net.number net.first net.vertices net.begin net.junctions

abbrev pub vertices_of : Page → Net → List ℕ
vertices_of p net = up_to (vertex_line p.xs p.ys p.kinds net.first) net.vertices

abbrev pub joins_at : Page → Net → ℕ → List ℕ
joins_at p net v = joins_of p.junctions net.first net.begin net.junctions v

abbrev pub all_joins : Page → Net → List ℕ
all_joins p net = up_to (joins_at p net) net.vertices
