-- 01, 'Program `wires`': what is printed of a page text, from its bytes alone, the graph pruned or not, the wires separated or not.
use Rattle.std.specs.Prelude.{Bool, cond, List, ℕ, ◌+◌, ◌*◌, eqb, length, replicate}
use Rattle.fixed.specs.Up.{BIAS}
use Rattle.page_graph.specs.Page.{crowded}
use Rattle.book.specs.Book.{Lists}
use Rattle.select.specs.Page.{flat, page_of}
use Rattle.page_text.specs.Reading.{Reading, read_text}
use Rattle.page_layout.specs.Drawing.{Drawing, laid}
use Rattle.listing.specs.Listing.{Page, page, listing, refused_line, crowded_line}
use Rattle.listing.specs.Room.{NET_BYTES, VERTEX_BYTES, JUNCTION_BYTES}

-- 01, 'Limits': 64 nets and 512 vertices; a wire that joins has two vertices or more, so that there are at most 256 junctions
abbrev pub ROOM : ℕ
ROOM = 64 * NET_BYTES + 512 * VERTEX_BYTES + 256 * JUNCTION_BYTES

-- empty lists with room for them
unfoldable pub sheet : Drawing
sheet =
    record { nets = replicate 320 0; xs = replicate 512 BIAS; ys = replicate 512 BIAS; kinds = replicate 512 0; joins = replicate 768 0 }

-- a drawing with the ids of its nets
unfoldable pub page_on : Lists → Drawing → Page
page_on l d = page d.nets (flat l.nets) d.xs d.ys d.kinds d.joins

-- 'prints per net, in kept order'
unfoldable pub laid_listing : Bool → Bool → Lists → List ℕ
laid_listing pruned apart l = listing (page_on l (laid (page_of l) pruned apart sheet)) (length l.nets)

-- 'a crowded page only `page`, 8'
unfoldable pub page_printed : Bool → Bool → Lists → List ℕ
page_printed pruned apart l = cond (crowded (page_of l)) crowded_line (laid_listing pruned apart l)

-- 'a refused text prints only `refused`, line, inner number'
unfoldable pub read_printed : Bool → Bool → Reading → List ℕ
read_printed pruned apart r = cond (eqb r.number 0) (page_printed pruned apart r.lists) (refused_line r.line r.inner)

unfoldable pub printed : Bool → Bool → List ℕ → List ℕ
printed pruned apart text = read_printed pruned apart (read_text text)
