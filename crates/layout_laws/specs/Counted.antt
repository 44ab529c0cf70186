-- 01, 'Numbers handed back' and 'Limits': how many vertices and junctions the rows of a page's nets count.
use Rattle.std.specs.Prelude.{◌≡◌, Bool, false, List, ℕ, zero, suc, ◌+◌, ◌*◌, ◌≤◌, get_or}
use Rattle.vertex.specs.Pages.{VERTICES}
use Rattle.anchors.specs.Records.{Records}
use Rattle.page_graph.specs.Page.{crowded}
use Rattle.page_graph.specs.Lent.{Asked}
use Rattle.page_graph.specs.Claims.{Placed}
use Rattle.layout.specs.Layout.{NET_ROW, Page}
use Rattle.layout.specs.Answer.{layout_page}
use Rattle.layout_laws.specs.Laid.{Ready}

-- those of the first k rows
unfoldable pub vertex_count : List ℕ → ℕ → ℕ
vertex_count R zero = 0
vertex_count R (suc k) = vertex_count R k + get_or R (k * NET_ROW + 2) 0

unfoldable pub join_count : List ℕ → ℕ → ℕ
join_count R zero = 0
join_count R (suc k) = join_count R k + get_or R (k * NET_ROW + 4) 0

-- the rows of n nets count each vertex and each junction of the page once; there are at most 512 vertices, and at most half as many junctions
pub record Counted (n : ℕ) (Q : Page) : Type 0 where
  pub vertices_are : vertex_count Q.nets n ≡ Q.wires.n
  pub joins_are : join_count Q.nets n ≡ Q.j
  pub few : Q.wires.n ≤ VERTICES
  pub half : 2 * Q.j ≤ Q.wires.n

-- of a page with no net yet, pruned or not, separated or not
abbrev pub Counts : Type 0
Counts =
    (r : Records) (pruned apart : Bool) (P : Page) → Asked r → Placed r → crowded r ≡ false → Ready r.net_count P → P.wires.n ≡ 0 → P.j ≡ 0
    → Counted r.net_count (layout_page r pruned apart P)
