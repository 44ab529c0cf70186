-- 01, 'Graph': 'explicit anchors: ports by box, then unported endpoints by net, all directions'. 'A port ignores its own box; other anchors ignore none.'
use Rattle.std.specs.Prelude.{Bool, true, false, not, cond, ◌&&◌, ◌||◌, List, [], ◌∷◌, ◌++◌, ℕ, zero, suc, ◌+◌, ◌*◌, eqb, get_or}
use Rattle.fixed.specs.declared.Anchor.{Anchor}
use Rattle.fixed.specs.Boxes.{anchor_xs, anchor_ys, directions_of, ignored_of}
use Rattle.nodes.specs.Graph.{none, ALL}
use Rattle.anchors.specs.Records.{BOX, ROW, NET, Records}

-- anchors in order: places, directions, and the index of the box that each ignores
pub record Columns : Type 0 where
  pub xs : List ℕ
  pub ys : List ℕ
  pub dirs : List ℕ
  pub boxes : List ℕ

abbrev pub empty : Columns
empty = record { xs = []; ys = []; dirs = []; boxes = [] }

unfoldable pub push : Columns → ℕ → ℕ → ℕ → ℕ → Columns
push c x y d b =
    record { xs = c.xs ++ (x ∷ []); ys = c.ys ++ (y ∷ []); dirs = c.dirs ++ (d ∷ []); boxes = c.boxes ++ (b ∷ []) }

-- ---- rows are ports, or ends where `ends` is true

-- whether the row k is one of `key` that is an anchor: each port, and an end with the mark 0
unfoldable pub takes : Bool → List ℕ → ℕ → ℕ → Bool
takes ends rows key k = eqb (get_or rows (k * ROW) 0) key && (not ends || eqb (get_or rows (k * ROW + 3) 0) 0)

-- its directions: the port's, or all
unfoldable pub ways : Bool → ℕ → ℕ
ways ends w = cond ends ALL w

-- the box that the rows of the key i ignore: that box, or none
unfoldable pub ignored : Bool → ℕ → ℕ
ignored ends i = cond ends none i

unfoldable pub with_row : Bool → List ℕ → ℕ → ℕ → ℕ → Columns → Columns
with_row ends rows key box k c =
    cond (takes ends rows key k)
    (push c (get_or rows (k * ROW + 1) 0) (get_or rows (k * ROW + 2) 0) (ways ends (get_or rows (k * ROW + 3) 0)) box)
    c

-- the first k rows of one key, then those of the first i keys in turn, each with all n rows
unfoldable pub with_key : Bool → List ℕ → ℕ → ℕ → ℕ → Columns → Columns
with_key ends rows key box zero c = c
with_key ends rows key box (suc k) c = with_row ends rows key box k (with_key ends rows key box k c)

unfoldable pub with_keys : Bool → List ℕ → ℕ → List ℕ → ℕ → ℕ → Columns → Columns
with_keys ends rows n keys width zero c = c
with_keys ends rows n keys width (suc i) c =
    with_key ends rows (get_or keys (i * width) 0) (ignored ends i) n (with_keys ends rows n keys width i c)

unfoldable pub port_anchors : Records → Columns
port_anchors r = with_keys false r.ports r.port_count r.boxes BOX r.box_count empty

unfoldable pub explicit : Records → Columns
explicit r = with_keys true r.ends r.end_count r.nets NET r.net_count (port_anchors r)

-- ---- in a list of anchors
abbrev pub columns : List Anchor → Columns
columns l = record { xs = anchor_xs l; ys = anchor_ys l; dirs = directions_of l; boxes = ignored_of l }
