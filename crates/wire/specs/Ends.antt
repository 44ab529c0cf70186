-- 01, 'Nets' (`PathFindingEnd`): the ends of a net, where a later wire of it may join. An end is a row of four words: x, y, the vertex that holds a
-- junction there, and the letter of the junction's kind, C for a corner and L for a line segment.
use Rattle.std.specs.Prelude.{Bool, ◌&&◌, cond, List, ℕ, zero, suc, ◌+◌, ◌-◌, ◌*◌, eqb, ltb, get_or, set}
use Rattle.fixed.specs.Steps.{manhattan}

-- 4,096 ends a net
abbrev pub ENDS : ℕ
ENDS = 4096

abbrev pub CORNER : ℕ
CORNER = 67

abbrev pub LINE : ℕ
LINE = 76

abbrev pub end_x_at : List ℕ → ℕ → ℕ
end_x_at E i = get_or E (4 * i) 0

abbrev pub end_y_at : List ℕ → ℕ → ℕ
end_y_at E i = get_or E (4 * i + 1) 0

abbrev pub end_vertex : List ℕ → ℕ → ℕ
end_vertex E i = get_or E (4 * i + 2) 0

abbrev pub end_kind : List ℕ → ℕ → ℕ
end_kind E i = get_or E (4 * i + 3) 0

-- the row i written
unfoldable pub put_end : List ℕ → ℕ → ℕ → ℕ → ℕ → ℕ → List ℕ
put_end E i px py v k = set (set (set (set E (4 * i) px) (4 * i + 1) py) (4 * i + 2) v) (4 * i + 3) k

-- whether the end i stands at the place
unfoldable pub stands : List ℕ → ℕ → ℕ → ℕ → Bool
stands E px py i = eqb (end_x_at E i) px && eqb (end_y_at E i) py

-- the first of the k ends from i on that stands at the place, i + k if none does
unfoldable pub first_from : ℕ → List ℕ → ℕ → ℕ → ℕ → ℕ
first_from zero E px py i = i
first_from (suc k) E px py i =
    let on = first_from k E px py (i + 1) in
    cond (stands E px py i) i on

-- 'a junction takes the first end at the place': of m ends, one of which stands there
unfoldable pub junction_end : List ℕ → ℕ → ℕ → ℕ → ℕ
junction_end E m px py = first_from (m - 1) E px py 0

unfoldable pub end_distance : List ℕ → ℕ → ℕ → ℕ → ℕ
end_distance E px py i = manhattan (end_x_at E i) (end_y_at E i) px py

-- of the first m ends, the first at the least Manhattan distance from the place
unfoldable pub nearest_end : List ℕ → ℕ → ℕ → ℕ → ℕ
nearest_end E px py zero = zero
nearest_end E px py (suc m) =
    let best = nearest_end E px py m in
    cond (ltb (end_distance E px py m) (end_distance E px py best)) m best
