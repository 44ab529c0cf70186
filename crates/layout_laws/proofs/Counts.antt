-- The rows of a page's nets count its vertices and its junctions.
use mathlib.Core.Path.{◌≡◌, sym, ap, ◌∙◌}
use mathlib.Core.Bool.{Bool, true, false, cond}
use mathlib.Core.List.{List}
use Prim.Native.Nat.{ℕ, zero, suc, ◌*◌, ◌≤◌}
use native.Mathlib.Omega.{arith}
use lib.ListN.{length}
use Rattle.nodes.specs.Graph.{Graph}
use Rattle.anchors.specs.Records.{Records}
use Rattle.page_graph.specs.Page.{crowded, graph_of_page}
use Rattle.page_graph.specs.Lent.{Asked}
use Rattle.page_graph.specs.Claims.{Placed}
use Rattle.wire.specs.Wires.{Vertices}
use Rattle.page_laws.specs.Connected.{Ground}
use Rattle.page_laws.specs.Connected as Connected
use Rattle.page_laws.specs.Nets as Nets
use Rattle.page_laws.proofs.Theorems.{all-nets}
use Rattle.layout.specs.Layout.{NET_ROW, Page, parted, drawn}
use Rattle.layout.specs.Separated.{separated}
use Rattle.layout.specs.Answer.{routed, layout_page}
use Rattle.layout.proofs.Nets.{xs_of, ys_of, same-nets}
use Rattle.layout_laws.specs.Laid.{LOW, HIGH, Ready}
use Rattle.layout_laws.specs.Counted.{vertex_count, join_count, Counted, Counts}
use Rattle.layout_laws.proofs.Rows.{at, laid, rows_are}
use Rattle.layout_laws.proofs.Theorem.{ground, good}

module _ (lo hi : ℕ) (G : Graph) (floor : Ground lo hi G) (I E : List ℕ) (e : ℕ) (P : Page) (page : Connected.Page lo hi P.wires P.joins P.j)
    (empty : P.wires.n ≡ 0) (free : P.j ≡ 0) (k : ℕ) (long : k * NET_ROW ≤ length P.nets) where
  -- the first i of k nets: what stood on the page after them
  counted-to : (i : ℕ) → i ≤ k → (vertex_count (laid G I E e P k).nets i ≡ (at G I E e P i).page.n) × (join_count (laid G I E e P k).nets i ≡ (at G I E e P i).j)
  unfolding vertex_count join_count Nets.nets_to
  counted-to zero h = (sym empty, sym free)
  counted-to (suc i) h =
      let t = rows_are G I E e P k long i (omega arith) in
      let s = (all-nets lo hi G floor (xs_of G I E e) (ys_of G I E e) P.wires P.joins P.j page k).each i (omega arith) in
      let b = counted-to i (omega arith) in
      (omega (arith, b.0, t.count_is, s.more), omega (arith, b.1, t.joins_is, s.more_rows))

module _ (r : Records) (pruned : Bool) (P : Page) (asked : Asked r) (placed : Placed r) (clear : crowded r ≡ false) (ready : Ready r.net_count P) (empty : P.wires.n ≡ 0)
    (free : P.j ≡ 0) where
  whole : Counted r.net_count (routed r pruned P)
  unfolding routed
  whole =
      let G = graph_of_page r pruned in
      let s = same-nets G r.nets r.ends r.end_count P r.net_count in
      let g = good r pruned P asked placed clear ready in
      let b = counted-to LOW HIGH G (ground r pruned P asked placed clear ready) r.nets r.ends r.end_count P ready.page empty free r.net_count ready.rows_long r.net_count (omega arith) in
      record { vertices_are = b.0 ∙ ap (λ (W : Vertices). W.n) s.page_is; joins_are = b.1 ∙ s.j_is; few = g.few; half = g.few_joins }

  -- separation moves vertices, and neither adds nor takes any
  apart-whole : Counted r.net_count (parted (routed r pruned P))
  unfolding parted separated
  apart-whole = let w = whole in record { vertices_are = w.vertices_are; joins_are = w.joins_are; few = w.few; half = w.half }

pub rows-count : Counts
unfolding layout_page drawn
rows-count r pruned apart P asked placed clear ready empty free = rw clear (by apart)
  where
    by : (b : Bool) → Counted r.net_count (cond b (parted (routed r pruned P)) (routed r pruned P))
    by true = apart-whole r pruned P asked placed clear ready empty free
    by false = whole r pruned P asked placed clear ready empty free
