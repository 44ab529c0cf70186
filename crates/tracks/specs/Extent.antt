-- 01, 'Separation': a pair's extent goes down the corner junctions of both its vertices, as in `find_min_max_x` and `find_min_max_y`. Coordinates are
-- lists of steps, `along` the corridor and `across` it.
use Rattle.std.specs.Prelude.{Bool, cond, ◌&&◌, List, ℕ, zero, suc, ◌+◌, ◌-◌, ltb, eqb, length, get_or}
use Rattle.vertex.specs.Pages.{rows, holder, joiner, corner}
use Rattle.tracks.specs.declared.types.Extent.{Extent}

abbrev pub extent : ℕ → ℕ → Extent
extent a b = record { low = a; high = b }

-- e and x
unfoldable pub widen : Extent → ℕ → Extent
widen e x = extent (cond (ltb x e.low) x e.low) (cond (ltb e.high x) x e.high)

-- the row j is a corner junction of v, and the wire comes in along v's own line
unfoldable pub leads : List ℕ → List ℕ → ℕ → ℕ → Bool
leads across J v j = eqb (holder J j) v && (corner J j && eqb (get_or across (joiner J j - 1) 0) (get_or across v 0))

-- the extent e, made wider by what the first j rows lead to from v; k is above the number of vertices from v on
unfoldable pub reach : ℕ → List ℕ → List ℕ → List ℕ → ℕ → ℕ → Extent → Extent
reach zero along across J j v e = e
reach (suc k) along across J zero v e = e
reach (suc k) along across J (suc j) v e =
    let sofar = reach (suc k) along across J j v e in
    let on = reach k along across J (rows J) (joiner J j - 1) (widen sofar (get_or along (joiner J j - 1) 0)) in
    cond (leads across J v j) on sofar

-- of the pair of vertices i and i + 1
unfoldable pub extent_of : List ℕ → List ℕ → List ℕ → ℕ → Extent
extent_of along across J i =
    let n = length across in
    let e = widen (extent (get_or along i 0) (get_or along i 0)) (get_or along (i + 1) 0) in
    reach n along across J (rows J) (i + 1) (reach n along across J (rows J) i e)
