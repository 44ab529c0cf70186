-- What is left on a crowded page, and the nets on the graph of any other.
use mathlib.Core.Path.{◌≡◌, ap}
use mathlib.Core.Bool.{Bool, true, false}
use mathlib.Core.List.{List}
use Prim.Native.Nat.{ℕ}
use native.Mathlib.Omega.{arith}
use lib.IntN.{ℤ}
use lib.ListN.{length}
use Rattle.fixed.specs.Up.{ups}
use Rattle.fixed.proofs.Lists.{length-ups}
use Rattle.nodes.specs.Graph.{Graph}
use Rattle.anchors.specs.Records.{Records}
use Rattle.page_graph.specs.Page.{crowded, graph_of_page}
use Rattle.page_graph.specs.Lent.{Asked}
use Rattle.page_graph.specs.Claims.{Placed}
use Rattle.page_laws.specs.Connected.{Ground}
use Rattle.wire.specs.Wires.{vertices}
use Rattle.fixup.specs.Moves.{LOWEST, HIGHEST}
use Rattle.layout.specs.Layout.{Page, page, blank, nets_to, drawn}
use Rattle.layout.specs.Answer.{layout_number, routed, layout_page}
use Rattle.layout.proofs.Ground.{page-ground}
use Rattle.page_layout.specs.Drawing.{drawing, lists_of, bare, laid}

module _ (r : Records) (full : crowded r ≡ true) where
  pub number-full : 8 ≡ layout_number r
  unfolding layout_number
  number-full = rw full

module _ (r : Records) (clear : crowded r ≡ false) where
  pub number_fits : 0 ≡ layout_number r
  unfolding layout_number
  number_fits = rw clear

  pub grounded : (pruned : Bool) (G : Graph) → G ≡ graph_of_page r pruned → Asked r → Placed r → Ground LOWEST HIGHEST G
  grounded pruned G g asked placed = rw g (page-ground LOWEST HIGHEST (omega arith) (omega arith) (omega arith) r pruned asked placed clear)

module _ (r : Records) (pruned apart : Bool) (nets : List ℕ) (x y : List ℤ) (K R nets1 : List ℕ) (x1 y1 : List ℤ) (K1 R1 : List ℕ) where
  abbrev zeros : Page
  zeros = blank (length nets) (length x) (length y) (length K) (length R)

  bare-is : bare (drawing nets x y K R) ≡ zeros
  unfolding bare
  bare-is = rw (length-ups x, length-ups y)

  pub laid-full : crowded r ≡ true → page nets1 (vertices (ups x1) (ups y1) K1 0) R1 0 ≡ zeros → drawing nets1 x1 y1 K1 R1 ≡ laid r pruned apart (drawing nets x y K R)
  unfolding laid layout_page lists_of
  laid-full full q = rw (full, bare-is) (ap lists_of q)

  pub laid-fits : crowded r ≡ false → (G : Graph) → G ≡ graph_of_page r pruned → (c j : ℕ)
      → page nets1 (vertices (ups x1) (ups y1) K1 c) R1 j ≡ drawn apart (nets_to G r.nets r.ends r.end_count r.net_count zeros) → drawing nets1 x1 y1 K1 R1 ≡ laid r pruned apart (drawing nets x y K R)
  unfolding laid layout_page routed lists_of
  laid-fits clear G g c j q = rw (clear, bare-is, ← g) (ap lists_of q)
