-- Separation of the first n vertices of a page: what it asks, and what it leaves in the whole columns.
use mathlib.Core.Path.{◌≡◌, refl, sym, ap}
use mathlib.Core.List.{List, ◌++◌}
use Prim.Native.Nat.{ℕ, ◌*◌, ◌≤◌}
use lib.IntN.{ℤ}
use lib.ListN.{length, take, drop}
use lib.Seq.{length-take-le}
use Rattle.fixed.specs.Up.{ups}
use Rattle.fixed.proofs.Lists.{ups-take, ups-drop}
use Rattle.page_graph.proofs.Parts.{ups-append}
use Rattle.vertex.specs.Pages.{VERTICES, Joined, Within}
use Rattle.wire.specs.Wires.{vertices}
use Rattle.fixup.specs.Moves.{Places, places, LOWEST, HIGHEST}
use Rattle.fixup.specs.Separation.{separate_wires}
use Rattle.page_laws.specs.Separated.{Separable}
use Rattle.layout.specs.Separated.{apart, separated}

-- what `separate_wires` asks of the parts
pub separable : (x y : List ℤ) (K R : List ℕ) (n j : ℕ) → n ≤ length x → n ≤ length y → Separable (vertices (ups x) (ups y) K n) (take (3 * j) R)
    → Joined (length (take n x)) (take (3 * j) R)
    × (((length (take n y) ≡ length (take n x)) × (length (take n x) ≤ length K) × (length (take n x) ≤ VERTICES))
    × (Within LOWEST HIGHEST (length (take n x)) (ups (take n x)) × Within LOWEST HIGHEST (length (take n x)) (ups (take n y))))
separable x y K R n j hx hy s =
    rw (length-take-le n x hx, length-take-le n y hy, ups-take n x, ups-take n y)
    (s.joined, ((refl, s.kinds_all, s.few), (s.near_x, s.near_y)))

-- what it leaves: x1 and y1 are the parts after
pub separated-is : (x y x1 y1 : List ℤ) (K R : List ℕ) (n j : ℕ)
    → places (ups x1) (ups y1) ≡ separate_wires K (take (3 * j) R) (places (ups (take n x)) (ups (take n y)))
    → vertices (ups (x1 ++ drop n x)) (ups (y1 ++ drop n y)) K n ≡ separated R j (vertices (ups x) (ups y) K n)
unfolding separated apart
separated-is x y x1 y1 K R n j e =
    rw (ups-append x1 (drop n x), ups-append y1 (drop n y), ups-drop n x, ups-drop n y, sym (ups-take n x), sym (ups-take n y))
    (ap (λ (s : Places). vertices (s.x ++ drop n (ups x)) (s.y ++ drop n (ups y)) K n) e)
