-- 01, 'Nets' (`connect_net`): what a net leaves of a page, refused or not.
use Rattle.std.specs.Prelude.{◌≡◌, true, List, ℕ, ◌+◌, ◌-◌, ◌*◌, ◌<◌, ◌≤◌, length, get_or, take}
use Rattle.nodes.specs.Graph.{Graph}
use Rattle.astar.specs.Reached.{Ready}
use Rattle.vertex.specs.Pages.{holder, joiner, kind_at, Within}
use Rattle.fixup.specs.Promises.{still}
use Rattle.wire.specs.Wires.{Vertices}
use Rattle.net.specs.Nets.{Net}
use Rattle.net_laws.specs.Laid.{Kept, Roomy}
use Rattle.net_laws.specs.Good.{Good}

-- a graph that can be searched, unless it has no node, with its nodes' places from lo to hi
pub record Ground (lo hi : ℕ) (G : Graph) : Type 0 where
  pub ready : 0 < G.count → Ready G
  pub near_x : Within lo hi G.count G.xs
  pub near_y : Within lo hi G.count G.ys

-- a page of the vertices P with j junctions in R, which separation takes, and room for more: a wire that joins has two vertices or more
pub record Page (lo hi : ℕ) (P : Vertices) (R : List ℕ) (j : ℕ) : Type 0 where
  pub good : Good lo hi P (take (3 * j) R)
  pub few : P.n ≤ 512
  pub few_joins : 2 * j ≤ P.n
  pub roomy : Roomy P
  pub rows_long : 768 ≤ length R

-- at (px, py) stands a vertex, from a to before b, that separation does not move: a wire's start, or an end with no junction
pub record Touched (a b : ℕ) (P : Vertices) (px py : ℕ) : Type 0 where
  pub vertex : ℕ
  pub from : a ≤ vertex
  pub to : vertex < b
  pub stays : still (kind_at P.kinds vertex) ≡ true
  pub at_x : get_or P.x vertex 0 ≡ px
  pub at_y : get_or P.y vertex 0 ≡ py

-- the net with the endpoints px, py gave N on the page P, R, j
pub record Connected (lo hi : ℕ) (px py : List ℕ) (P : Vertices) (R : List ℕ) (j : ℕ) (N : Net) : Type 0 where
  pub page : Page lo hi N.page N.joins N.j
  pub old : Kept P.n P N.page
  pub old_rows : (k : ℕ) → k < 3 * j → get_or N.joins k 0 ≡ get_or R k 0
  pub more : P.n ≤ N.page.n
  pub more_rows : j ≤ N.j
  pub most_rows : N.j ≤ j + (length px - 2)
  pub own : (i : ℕ) → j ≤ i → i < N.j → (P.n ≤ holder N.joins i) × (joiner N.joins i < N.page.n)
  pub touched : N.number ≡ 0 → (i : ℕ) → i < length px → Touched P.n N.page.n N.page (get_or px i 0) (get_or py i 0)
  pub none : (N.number ≡ 0 → ⊥) → (N.page.n ≡ P.n) × (N.j ≡ j)
