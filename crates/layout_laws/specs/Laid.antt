-- 01, 'Nets' and 'Separation': each net of a laid-out page by its row. Its endpoints are the columns px and py.
use Rattle.std.specs.Prelude.{◌≡◌, Bool, false, List, ℕ, ◌+◌, ◌-◌, ◌*◌, ◌<◌, ◌≤◌, length, get_or}
use Rattle.fixed.specs.Constants.{PADDING, LEAST, GREATEST}
use Rattle.vertex.specs.Pages.{holder, joiner, Within}
use Rattle.fixup.specs.Promises.{REACH}
use Rattle.anchors.specs.Records.{NET, Records}
use Rattle.page_graph.specs.Page.{crowded}
use Rattle.page_graph.specs.Lent.{Asked}
use Rattle.page_graph.specs.Claims.{Placed}
use Rattle.net.specs.Points.{points_x, points_y}
use Rattle.page_laws.specs.Connected.{Touched}
use Rattle.page_laws.specs.Connected as Connected
use Rattle.layout.specs.Layout.{NET_ROW, Page}
use Rattle.layout.specs.Answer.{layout_page}

-- the words of the row of the net i
abbrev pub number_at : Page → ℕ → ℕ
number_at Q i = get_or Q.nets (i * NET_ROW) 0

abbrev pub first_at : Page → ℕ → ℕ
first_at Q i = get_or Q.nets (i * NET_ROW + 1) 0

abbrev pub count_at : Page → ℕ → ℕ
count_at Q i = get_or Q.nets (i * NET_ROW + 2) 0

abbrev pub begin_at : Page → ℕ → ℕ
begin_at Q i = get_or Q.nets (i * NET_ROW + 3) 0

abbrev pub joins_at : Page → ℕ → ℕ
joins_at Q i = get_or Q.nets (i * NET_ROW + 4) 0

-- the net i: its vertices and junctions are of the page, its junctions join two vertices of its own; at 0 each endpoint is the place of one of its vertices that
-- separation does not move, a wire's start or an end with no junction; else it has no vertex and no junction
pub record NetLaid (px py : List ℕ) (i : ℕ) (Q : Page) : Type 0 where
  pub inside : first_at Q i + count_at Q i ≤ Q.wires.n
  pub inside_joins : begin_at Q i + joins_at Q i ≤ Q.j
  pub own : (r : ℕ) → begin_at Q i ≤ r → r < begin_at Q i + joins_at Q i → (first_at Q i ≤ holder Q.joins r) × (joiner Q.joins r < first_at Q i + count_at Q i)
  pub touched : number_at Q i ≡ 0 → (e : ℕ) → e < length px → Touched (first_at Q i) (first_at Q i + count_at Q i) Q.wires (get_or px e 0) (get_or py e 0)
  pub none : (number_at Q i ≡ 0 → ⊥) → (count_at Q i ≡ 0) × (joins_at Q i ≡ 0)

-- no node lies further out than a padded box can
abbrev pub LOW : ℕ
LOW = LEAST - PADDING

abbrev pub HIGH : ℕ
HIGH = GREATEST + PADDING

-- the nets of a page's records, and the coordinates of all vertices, which separation moves by at most 256 spacings
pub record LaidOut (r : Records) (Q : Page) : Type 0 where
  pub each : (i : ℕ) → i < r.net_count → NetLaid (points_x r.ends (get_or r.nets (i * NET) 0) r.end_count) (points_y r.ends (get_or r.nets (i * NET) 0) r.end_count) i Q
  pub near_x : Within (LOW - REACH) (HIGH + REACH) Q.wires.n Q.wires.x
  pub near_y : Within (LOW - REACH) (HIGH + REACH) Q.wires.n Q.wires.y

-- a page that is good, with room for the rows of k nets
pub record Ready (k : ℕ) (P : Page) : Type 0 where
  pub page : Connected.Page LOW HIGH P.wires P.joins P.j
  pub rows_long : k * NET_ROW ≤ length P.nets

-- pruned or not, separated or not
abbrev pub Layout : Type 0
Layout = (r : Records) (pruned apart : Bool) (P : Page) → Asked r → Placed r → crowded r ≡ false → Ready r.net_count P → LaidOut r (layout_page r pruned apart P)
