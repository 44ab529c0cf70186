-- 01, 'Nets': one wire more on a page, and the ends that it offers.
use Rattle.std.specs.Prelude.{◌≡◌, true, false, ◌⊎◌, ℕ, ◌+◌, ◌-◌, ◌*◌, ◌<◌, ◌≤◌, length, get_or}
use Rattle.vertex.specs.Kinds.{start, end, Junction}
use Rattle.vertex.specs.Pages.{kind_at, Within}
use Rattle.vertex.specs.declared.VertexKind.TheVariants.{WireEnd}
use Rattle.wire.specs.Ends.{ENDS, CORNER, LINE, end_x_at, end_y_at, end_vertex, end_kind, stands}
use Rattle.wire.specs.Lines.{Line, NORMAL}
use Rattle.wire.specs.Wires.{Vertices, Ends, Wires, Room}

-- the place (x, y) lies from lo to hi on both axes
pub record In (lo hi x y : ℕ) : Type 0 where
  pub x_low : lo ≤ x
  pub x_high : x ≤ hi
  pub y_low : lo ≤ y
  pub y_high : y ≤ hi

-- the first n vertices are as they were
pub record Kept (n : ℕ) (O P : Vertices) : Type 0 where
  pub x_kept : (i : ℕ) → i < n → get_or P.x i 0 ≡ get_or O.x i 0
  pub y_kept : (i : ℕ) → i < n → get_or P.y i 0 ≡ get_or O.y i 0
  pub kind_kept : (i : ℕ) → i < n → get_or P.kinds i 0 ≡ get_or O.kinds i 0

-- the vertices of O are as they were, and behind them P has a wire from a start at s
pub record Begun (O P : Vertices) (sx sy : ℕ) : Type 0 where
  pub more : O.n < P.n
  pub old : Kept O.n O P
  pub from : start (kind_at P.kinds O.n) ≡ true
  pub from_x : get_or P.x O.n 0 ≡ sx
  pub from_y : get_or P.y O.n 0 ≡ sy
  pub one_start : (i : ℕ) → O.n < i → i < P.n → start (kind_at P.kinds i) ≡ false
  pub no_end : (i : ℕ) → O.n ≤ i → i < P.n → end (kind_at P.kinds i) ≡ false

-- the vertices of O are as they were, and behind them P has one wire from a start at s to an end at e that carries J
pub record Laid (O P : Vertices) (sx sy ex ey : ℕ) (J : Junction) : Type 0 where
  pub two : O.n + 2 ≤ P.n
  pub old : Kept O.n O P
  pub from : start (kind_at P.kinds O.n) ≡ true
  pub from_x : get_or P.x O.n 0 ≡ sx
  pub from_y : get_or P.y O.n 0 ≡ sy
  pub one_start : (i : ℕ) → O.n < i → i < P.n → start (kind_at P.kinds i) ≡ false
  pub one_end : (i : ℕ) → O.n ≤ i → i + 1 < P.n → end (kind_at P.kinds i) ≡ false
  pub to : kind_at P.kinds (P.n - 1) ≡ WireEnd J
  pub to_x : get_or P.x (P.n - 1) 0 ≡ ex
  pub to_y : get_or P.y (P.n - 1) 0 ≡ ey

-- the ends from i on stand at such spots, and name vertices from a to before b
pub record Offered (Spot : ℕ → ℕ → Type 0) (a b i : ℕ) (E : Ends) : Type 0 where
  pub spot : (k : ℕ) → i ≤ k → k < E.m → Spot (end_x_at E.rows k) (end_y_at E.rows k)
  pub from : (k : ℕ) → i ≤ k → k < E.m → a ≤ end_vertex E.rows k
  pub to : (k : ℕ) → i ≤ k → k < E.m → end_vertex E.rows k < b
  pub kind : (k : ℕ) → i ≤ k → k < E.m → (end_kind E.rows k ≡ CORNER) ⊎ (end_kind E.rows k ≡ LINE)

-- the ends of E are as they were
pub record Before (E F : Ends) : Type 0 where
  pub more : E.m ≤ F.m
  pub old : (k : ℕ) → k < 4 * E.m → get_or F.rows k 0 ≡ get_or E.rows k 0

-- the lists have room for the vertices of a page and the ends of a net
abbrev pub Roomy : Vertices → Type 0
Roomy P = Room (length P.x) (length P.y) (length P.kinds)

pub record Long (W : Wires) : Type 0 where
  pub page : Roomy W.page
  pub net : 4 * ENDS ≤ length W.net.rows

-- the line's last node is no normal one, and all its nodes are at such spots
pub record Drawn (Spot : ℕ → ℕ → Type 0) (L : Line) : Type 0 where
  pub last : 0 < L.count → get_or L.kinds (L.count - 1) 0 ≡ NORMAL → ⊥
  pub spots : (i : ℕ) → i < L.count → Spot (get_or L.x i 0) (get_or L.y i 0)

-- W is O with one wire more from s to e that carries J, and the wire's ends; all its vertices lie from lo to hi
pub record Wire (Spot : ℕ → ℕ → Type 0) (lo hi : ℕ) (O W : Wires) (sx sy ex ey : ℕ) (J : Junction) : Type 0 where
  pub laid : Laid O.page W.page sx sy ex ey J
  pub before : Before O.net W.net
  pub some : O.net.m < W.net.m
  pub offered : Offered Spot O.page.n W.page.n O.net.m W.net
  pub long : Long W
  pub near_x : Within lo hi W.page.n W.page.x
  pub near_y : Within lo hi W.page.n W.page.y

-- a line that has nodes leads from s to e
pub record Leads (L : Line) (sx sy ex ey : ℕ) : Type 0 where
  pub from_x : 0 < L.count → get_or L.x 0 0 ≡ sx
  pub from_y : 0 < L.count → get_or L.y 0 0 ≡ sy
  pub to_x : 0 < L.count → get_or L.x (L.count - 1) 0 ≡ ex
  pub to_y : 0 < L.count → get_or L.y (L.count - 1) 0 ≡ ey

-- a line that has nodes leads from s to one of the ends
pub record Reaches (L : Line) (sx sy : ℕ) (E : Ends) : Type 0 where
  pub from_x : 0 < L.count → get_or L.x 0 0 ≡ sx
  pub from_y : 0 < L.count → get_or L.y 0 0 ≡ sy
  pub to : 0 < L.count → (i : ℕ) × (i < E.m) × (stands E.rows (get_or L.x (L.count - 1) 0) (get_or L.y (L.count - 1) 0) i ≡ true)
