-- 01, 'Nets': what is true of the definitions. The proofs are in proofs/Theorems.
use Rattle.std.specs.Prelude.{◌≡◌, Bool, true, List, ℕ, ◌+◌, ◌-◌, ◌<◌, ◌≤◌, eqb, get_or}
use Rattle.vertex.specs.Pages.{Within, Wired, carried}
use Rattle.vertex.specs.Kinds.{Junction}
use Rattle.wire.specs.Ends.{CORNER, end_x_at, end_y_at, end_kind, stands, junction_end, nearest_end}
use Rattle.wire.specs.Lines.{Line}
use Rattle.wire.specs.Wires.{Vertices, Wires, push_vertices, push_fallback, line_vertices, line_ends, fallback_vertices}
use Rattle.routing.specs.Branches.{route_wire, route_branch, join_branch, joined_end}
use Rattle.routing.specs.Roots.{root_pair}
use Rattle.net_laws.specs.Roots.{Root}
use Rattle.net_laws.specs.Choices.{FirstAt, Nearest}
use Rattle.net_laws.specs.Laid.{In, Laid, Long, Drawn, Wire, Leads, Reaches}
use Rattle.net_laws.specs.Good.{Net, Row}

-- ---- choices

abbrev pub RootPair : Type 0
RootPair = (xs ys : List ℕ) (n : ℕ) → 2 ≤ n → Root xs ys n (root_pair xs ys n)

abbrev pub JunctionEnd : Type 0
JunctionEnd = (E : List ℕ) (px py m i : ℕ) → i < m → stands E px py i ≡ true → FirstAt E px py (junction_end E m px py)

abbrev pub NearestEnd : Type 0
NearestEnd = (E : List ℕ) (px py m : ℕ) → 0 < m → Nearest E px py m (nearest_end E px py m)

-- ---- one wire: what it may stand on lies from lo to hi, and so does the page

pub record Start (Spot : ℕ → ℕ → Type 0) (lo hi : ℕ) (O : Wires) : Type 0 where
  pub range : (x y : ℕ) → Spot x y → In lo hi x y
  pub long : Long O
  pub near_x : Within lo hi O.page.n O.page.x
  pub near_y : Within lo hi O.page.n O.page.y

abbrev pub LineWire : Type 1
LineWire =
    (Spot : ℕ → ℕ → Type 0) (lo hi : ℕ) (O : Wires) → Start Spot lo hi O → (L : Line) → Drawn Spot L → (is_root : Bool) (J : Junction) → 2 ≤ L.count
    → O.page.n + line_vertices L ≤ 512 → O.net.m + line_ends L ≤ 4096
    → Wire Spot lo hi O (push_vertices L is_root J O) (get_or L.x 0 0) (get_or L.y 0 0) (get_or L.x (L.count - 1) 0) (get_or L.y (L.count - 1) 0) J

abbrev pub FallbackWire : Type 1
FallbackWire =
    (Spot : ℕ → ℕ → Type 0) (lo hi : ℕ) (O : Wires) → Start Spot lo hi O → (sx sy ex ey : ℕ) → Spot sx sy → Spot ex ey → (along : Bool) (J : Junction)
    → O.page.n + fallback_vertices sx sy ex ey along ≤ 512 → O.net.m + 2 ≤ 4096 → Wire Spot lo hi O (push_fallback sx sy ex ey along J O) sx sy ex ey J

-- wires one after another stay so with a wire more
abbrev pub WiredOn : Type 0
WiredOn = (O P : Vertices) (sx sy ex ey : ℕ) (J : Junction) → Laid O P sx sy ex ey J → Wired O.n O.kinds → Wired P.n P.kinds

-- ---- a net, wire by wire

abbrev pub RootWire : Type 1
RootWire =
    (Spot : ℕ → ℕ → Type 0) (lo hi : ℕ) → ((x y : ℕ) → Spot x y → In lo hi x y) → (O : Vertices) (Q : List ℕ) (j₀ : ℕ) (W : Wires) (R : List ℕ) (j : ℕ) → Net Spot lo hi O Q j₀ W R j
    → (L : Line) → Drawn Spot L → (sx sy ex ey : ℕ) → Spot sx sy → Spot ex ey → Leads L sx sy ex ey → (along is_root : Bool) (J : Junction) → j ≤ 256
    → (route_wire L sx sy ex ey along is_root J W).number ≡ 0 → Net Spot lo hi O Q j₀ (route_wire L sx sy ex ey along is_root J W).wires R j

-- a branch adds one junction
abbrev pub Branch : Type 1
Branch =
    (Spot : ℕ → ℕ → Type 0) (lo hi : ℕ) → ((x y : ℕ) → Spot x y → In lo hi x y) → (O : Vertices) (Q : List ℕ) (j₀ : ℕ) (W : Wires) (R : List ℕ) (j : ℕ) → Net Spot lo hi O Q j₀ W R j
    → (L : Line) → Drawn Spot L → (sx sy : ℕ) → Spot sx sy → Reaches L sx sy W.net → (along : Bool) → 0 < W.net.m → j < 256 → (route_branch L sx sy along W).number ≡ 0
    → Net Spot lo hi O Q j₀ (route_branch L sx sy along W).wires (join_branch L sx sy along W R j) (j + 1)

abbrev pub BranchRow : Type 1
BranchRow =
    (Spot : ℕ → ℕ → Type 0) (lo hi : ℕ) → ((x y : ℕ) → Spot x y → In lo hi x y) → (O : Vertices) (Q : List ℕ) (j₀ : ℕ) (W : Wires) (R : List ℕ) (j : ℕ) → Net Spot lo hi O Q j₀ W R j
    → (L : Line) → Drawn Spot L → (sx sy : ℕ) → Spot sx sy → Reaches L sx sy W.net → (along : Bool) → 0 < W.net.m → j < 256 → (route_branch L sx sy along W).number ≡ 0
    → Row W (route_branch L sx sy along W).wires R (join_branch L sx sy along W R j) j

-- it runs from s to the end that it joins, and its last vertex carries the junction's kind
abbrev pub BranchLaid : Type 1
BranchLaid =
    (Spot : ℕ → ℕ → Type 0) (lo hi : ℕ) → ((x y : ℕ) → Spot x y → In lo hi x y) → (O : Vertices) (Q : List ℕ) (j₀ : ℕ) (W : Wires) (R : List ℕ) (j : ℕ) → Net Spot lo hi O Q j₀ W R j
    → (L : Line) → Drawn Spot L → (sx sy : ℕ) → Spot sx sy → Reaches L sx sy W.net → (along : Bool) → 0 < W.net.m → j < 256 → (route_branch L sx sy along W).number ≡ 0
    → Laid W.page (route_branch L sx sy along W).wires.page sx sy (end_x_at W.net.rows (joined_end L sx sy W.net)) (end_y_at W.net.rows (joined_end L sx sy W.net))
    (carried (eqb (end_kind W.net.rows (joined_end L sx sy W.net)) CORNER))
