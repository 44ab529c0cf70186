-- 01, 'Nets', 'Separation' and 'Numbers handed back': all nets of a page in kept order, on the page's graph.
use Rattle.std.specs.Prelude.{Bool, cond, List, ℕ, zero, suc, ◌+◌, ◌-◌, ◌*◌, ◌≤◌, get_or, set, replicate}
use Rattle.fixed.specs.Up.{BIAS}
use Rattle.nodes.specs.Graph.{Graph}
use Rattle.anchors.specs.Records.{NET}
use Rattle.book.specs.Sizes.{NETS}
use Rattle.vertex.specs.Pages.{VERTICES}
use Rattle.wire.specs.Wires.{Vertices, vertices}
use Rattle.net.specs.Points.{points_x, points_y}
use Rattle.net.specs.Nets.{Net, connect_net}
use Rattle.layout.specs.Separated.{separated}

-- a net's row has five words: number, first vertex, vertices, first junction, junctions
abbrev pub NET_ROW : ℕ
NET_ROW = 5

-- the rows of 64 nets
abbrev pub NET_WORDS : ℕ
NET_WORDS = NETS * NET_ROW

-- the rows of 256 junctions, three words each
abbrev pub JOIN_WORDS : ℕ
JOIN_WORDS = 768

unfoldable pub put_net : List ℕ → ℕ → ℕ → ℕ → ℕ → ℕ → ℕ → List ℕ
put_net R i number first count begin joins =
    set (set (set (set (set R (i * NET_ROW) number) (i * NET_ROW + 1) first) (i * NET_ROW + 2) count) (i * NET_ROW + 3) begin) (i * NET_ROW + 4) joins

-- a page: the nets' rows, the vertices, the junction rows and how many
pub record Page : Type 0 where
  pub nets : List ℕ
  pub wires : Vertices
  pub joins : List ℕ
  pub j : ℕ

abbrev pub page : List ℕ → Vertices → List ℕ → ℕ → Page
page nets wires joins j = record { nets = nets; wires = wires; joins = joins; j = j }

-- the page with the row of the net i: N is what its routing left
unfoldable pub with_net : ℕ → Net → Page → Page
with_net i N P =
    page (put_net P.nets i N.number P.wires.n (N.page.n - P.wires.n) P.j (N.j - P.j)) N.page N.joins N.j

-- the net with that id on the page so far: its endpoints are among the e rows of E
unfoldable pub net_of : Graph → List ℕ → ℕ → ℕ → Page → Net
net_of G E e id P = connect_net G (points_x E id e) (points_y E id e) P.wires P.joins P.j

-- the first k nets, whose ids are in I: a refused one leaves its row, and the next is tried
unfoldable pub nets_to : Graph → List ℕ → List ℕ → ℕ → ℕ → Page → Page
nets_to G I E e zero P = P
nets_to G I E e (suc k) P = let Q = nets_to G I E e k P in with_net k (net_of G E e (get_or I (k * NET) 0) Q) Q

-- a page with no net, in lent lists of these lengths
unfoldable pub blank : ℕ → ℕ → ℕ → ℕ → ℕ → Page
blank nets xs ys kinds joins =
    page (replicate nets 0) (vertices (replicate xs BIAS) (replicate ys BIAS) (replicate kinds 0) 0) (replicate joins 0) 0

-- the page with its wires separated
unfoldable pub parted : Page → Page
parted P = page P.nets (separated P.joins P.j P.wires) P.joins P.j

-- as the caller says: separated or not
unfoldable pub drawn : Bool → Page → Page
drawn apart P = cond apart (parted P) P

-- 01, 'Limits': 512 vertices; a wire has two vertices or more, so that there are at most half as many junctions
pub record Fit (n j : ℕ) : Type 0 where
  pub most : n ≤ VERTICES
  pub half : 2 * j ≤ n
