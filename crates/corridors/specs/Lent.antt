-- How the rows and the anchors are lists of numbers, and what the functions below `generate_implicit_anchors` do to them.
use Rattle.std.specs.Prelude.{◌≡◌, Bool, false, cond, ◌||◌, ◌&&◌, List, [], ◌∷◌, ◌++◌, ℕ, zero, suc, ◌+◌, ◌-◌, ◌<◌, ◌≤◌, eqb, ltb, leb, length, get_or, take, drop, map, replicate, Option, None, Some}
use Rattle.fixed.specs.declared.Axis.{Axis}
use Rattle.fixed.specs.declared.Axis.TheVariants.{X, Y}
use Rattle.fixed.specs.declared.Anchor.{Anchor}
use Rattle.fixed.specs.Boxes.{across, anchor_xs, anchor_ys, directions_of, ignored_of}
use Rattle.corridors.specs.declared.row.Run.{Run}
use Rattle.corridors.specs.declared.row.Row.{Row}
use Rattle.corridors.specs.Sizes as Sizes
use Rattle.corridors.specs.Sizes.{ANCHORS, NONE}
use Rattle.corridors.specs.Grid.{Boxes, cells, covered, add_cell}
use Rattle.corridors.specs.Merge.{Table, Taken, Plan, has, swap_remove}

-- ---- the rows

abbrev pub run : Run → ℕ
run r = cells r.start r.end

-- the derived `==`
abbrev pub same : Run → Run → Bool
same r v = eqb r.start v.start && eqb r.end v.end

abbrev pub row : Row → List ℕ
row a = map run (take a.count a.runs)

abbrev pub table : List Row → Table
table rows = map row rows

-- a row without v, if it is there
unfoldable pub removed : List ℕ → ℕ → List ℕ
removed l v = cond (has l v) (swap_remove l v) l

abbrev pub taken : ℕ → Table → Taken
taken k t = record { next = k; rows = t }

-- ---- marks that say which cells are filled

-- what was marked, and the cells that begin from f to before t
abbrev pub MarkedSpan : ℕ → ℕ → List ℕ → List Bool → List Bool → Type 0
MarkedSpan f t xs l o =
    (k : ℕ) → k < length l → get_or o k false ≡ get_or l k false || (leb f (get_or xs k 0) && ltb (get_or xs k 0) t)

-- the cells of the row at y that one of the first n boxes covers
pub record MarkedRow (b : Boxes) (y n : ℕ) (xs : List ℕ) (o : List Bool) : Type 0 where
  pub cell : (k : ℕ) → k < length o → get_or o k false ≡ covered b (get_or xs k 0) y n

-- the empty runs of the first m cells
unfoldable pub listed : List Bool → ℕ → List ℕ
listed l zero = []
listed l (suc m) = cond (get_or l m false) (listed l m) (add_cell (listed l m) m)

-- ---- while anchors are laid

-- the directions of an anchor of a run along an axis, and its place by the one along and the one across
abbrev pub way : Axis → ℕ
way X = Sizes.X
way Y = Sizes.Y

abbrev pub anchor : Axis → ℕ → ℕ → Anchor
anchor X u w = record { x = u; y = w; directions = Sizes.X; ignored = NONE }
anchor Y u w = record { x = w; y = u; directions = Sizes.Y; ignored = NONE }

abbrev pub alongs : Axis → List Anchor → List ℕ
alongs X s = anchor_xs s
alongs Y s = anchor_ys s

-- the rows, and the anchors s: their coordinates along and across
abbrev pub plan : Axis → List Row → List Anchor → Plan
plan along rows s = record { rows = table rows; along = alongs along s; across = alongs (across along) s }

-- from s to t, n anchors with the axis' directions were laid that ignore no box
pub record Directed (along : Axis) (n : ℕ) (s t : List Anchor) : Type 0 where
  pub directed : directions_of t ≡ directions_of s ++ replicate n (way along)
  pub free : ignored_of t ≡ ignored_of s ++ replicate n NONE

-- behind the first c anchors of s two others were laid along an axis, at u and v along and at w across, if there is room; what stands behind them stays
pub record Emit (along : Axis) (c r : ℕ) (s t : List Anchor) (u v w : ℕ) : Type 0 where
  pub count : r ≡ c + 2
  pub most : r ≤ ANCHORS
  pub two : take r t ≡ take c s ++ (anchor along u w ∷ anchor along v w ∷ [])
  pub rest : drop r t ≡ drop r s

abbrev pub Emitted : Axis → ℕ → Option ℕ → List Anchor → List Anchor → ℕ → ℕ → ℕ → Type 0
Emitted along c None s t u v w = ANCHORS < c + 2
Emitted along c (Some r) s t u v w = Emit along c r s t u v w

-- behind the first c anchors of s others were laid: the first r of t, and the rows, are the plan g; what stands behind them stays
pub record Put (along : Axis) (c r : ℕ) (s t : List Anchor) (rows : List Row) (g : Plan) : Type 0 where
  pub least : c ≤ r
  pub most : r ≤ ANCHORS
  pub same : plan along rows (take r t) ≡ g
  pub marks : Directed along (r - c) (take c s) (take r t)
  pub rest : drop r t ≡ drop r s

-- a step that may find no room: there is none if the plan has more than ANCHORS anchors
abbrev pub Laid : Axis → ℕ → Option ℕ → List Anchor → List Anchor → List Row → Plan → Type 0
Laid along c None s t rows g = ANCHORS < length g.along
Laid along c (Some r) s t rows g = Put along c r s t rows g
