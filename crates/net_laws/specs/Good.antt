-- 01, 'Nets' and 'Separation': what a page keeps while nets are added to it. A page has its vertices and its junctions, a list of rows of which the first j
-- are in use.
use Rattle.std.specs.Prelude.{◌≡◌, List, ◌⊎◌, ℕ, ◌+◌, ◌-◌, ◌*◌, ◌<◌, ◌≤◌, length, get_or, take}
use Rattle.vertex.specs.Pages.{rows, holder, joiner, Joined, Wired, Ended, Within}
use Rattle.wire.specs.Ends.{CORNER, LINE}
use Rattle.wire.specs.Wires.{Vertices, Wires}
use Rattle.net_laws.specs.Laid.{Kept, Offered, Long}

-- each junction's letter is that of its kind
pub record Lettered (J : List ℕ) : Type 0 where
  pub letter : (j : ℕ) → j < rows J → (get_or J (3 * j + 2) 0 ≡ CORNER) ⊎ (get_or J (3 * j + 2) 0 ≡ LINE)

-- what separation asks of a page
pub record Good (lo hi : ℕ) (P : Vertices) (J : List ℕ) : Type 0 where
  pub wired : Wired P.n P.kinds
  pub joined : Joined P.n J
  pub ended : Ended P.kinds J
  pub lettered : Lettered J
  pub near_x : Within lo hi P.n P.x
  pub near_y : Within lo hi P.n P.y

-- a net in the making, on a page of the vertices O with j₀ junctions in Q: the page is good, what was there before the net is as it was, and the net's
-- ends and junctions name vertices of its own
pub record Net (Spot : ℕ → ℕ → Type 0) (lo hi : ℕ) (O : Vertices) (Q : List ℕ) (j₀ : ℕ) (W : Wires) (R : List ℕ) (j : ℕ) : Type 0 where
  pub page : Good lo hi W.page (take (3 * j) R)
  pub old : Kept O.n O W.page
  pub old_rows : (k : ℕ) → k < 3 * j₀ → get_or R k 0 ≡ get_or Q k 0
  pub more : O.n ≤ W.page.n
  pub more_rows : j₀ ≤ j
  pub own : (i : ℕ) → j₀ ≤ i → i < j → O.n ≤ holder R i
  pub offered : Offered Spot O.n W.page.n 0 W.net
  pub vertices_most : W.page.n ≤ 512
  pub ends_most : W.net.m ≤ 4096
  pub long : Long W
  pub rows_long : 768 ≤ length R

-- the row j of S, and those before it as in R: the branch that made X of W joins with its last vertex a vertex that was there before it
pub record Row (W X : Wires) (R S : List ℕ) (j : ℕ) : Type 0 where
  pub old : (k : ℕ) → k < 3 * j → get_or S k 0 ≡ get_or R k 0
  pub from : holder S j < W.page.n
  pub last : joiner S j ≡ X.page.n - 1
