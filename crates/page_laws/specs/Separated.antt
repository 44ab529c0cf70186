-- 01, 'Separation': a page after it. Starts of wires and ends with no junction stay, so that every endpoint that was touched is.
use Rattle.std.specs.Prelude.{◌≡◌, List, ℕ, ◌<◌, ◌≤◌, length, get_or, take}
use Rattle.vertex.specs.Pages.{Joined, Within}
use Rattle.fixup.specs.Moves.{Places, places, LOWEST, HIGHEST}
use Rattle.fixup.specs.Separation.{separate_wires}
use Rattle.wire.specs.Wires.{Vertices}

-- the places of a page's vertices
abbrev pub places_of : Vertices → Places
places_of P = places (take P.n P.x) (take P.n P.y)

-- what `separate_wires` asks of a page
pub record Separable (P : Vertices) (J : List ℕ) : Type 0 where
  pub joined : Joined P.n J
  pub x_all : length (places_of P).x ≡ P.n
  pub y_all : length (places_of P).y ≡ P.n
  pub kinds_all : P.n ≤ length P.kinds
  pub few : P.n ≤ 512
  pub near_x : Within LOWEST HIGHEST P.n (places_of P).x
  pub near_y : Within LOWEST HIGHEST P.n (places_of P).y

-- Q is P with its vertices separated; J has the junctions
pub record Separated (P Q : Vertices) (J : List ℕ) : Type 0 where
  pub all : Q.n ≡ P.n
  pub kinds_kept : (i : ℕ) → i < P.n → get_or Q.kinds i 0 ≡ get_or P.kinds i 0
  pub x_is : take P.n Q.x ≡ (separate_wires P.kinds J (places_of P)).x
  pub y_is : take P.n Q.y ≡ (separate_wires P.kinds J (places_of P)).y
