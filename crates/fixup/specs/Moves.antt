-- 01, 'Separation': a moved pair takes its junctions along as `move_junctions` does. A pair is named by its first vertex.
use Rattle.std.specs.Prelude.{Bool, cond, List, ℕ, zero, suc, ◌+◌, ◌-◌, ◌<◌, ◌≤◌, eqb, length, get_or, set}
use Rattle.fixed.specs.Track.{track, moved}
use Rattle.vertex.specs.Kinds.{start}
use Rattle.vertex.specs.Pages.{rows, holder, joiner, corner, kind_at}
use Rattle.tracks.specs.Corridors.{same_at, pair_of, corridor_of}

-- the places of a page's vertices
pub record Places : Type 0 where
  pub x : List ℕ
  pub y : List ℕ

abbrev pub places : List ℕ → List ℕ → Places
places a b = record { x = a; y = b }

-- e takes the coordinate of v
abbrev pub copy_to : List ℕ → ℕ → ℕ → List ℕ
copy_to l v e = set l e (get_or l v 0)

abbrev pub start_at : List ℕ → ℕ → Bool
start_at K p = start (kind_at K p)

-- the end e, which joins the segment from i on, keeps to the segment's line
unfoldable pub line_move : Places → ℕ → ℕ → Places
line_move s i e =
    cond (same_at s.y i (i + 1)) (places s.x (copy_to s.y i e))
    (cond (same_at s.x i (i + 1)) (places (copy_to s.x i e) s.y) s)

-- the end e goes to the vertex v that it joins; the vertex before it, unless it is a start, keeps the wire's last segment straight
unfoldable pub corner_move : List ℕ → Places → ℕ → ℕ → Places
corner_move K s v e =
    let t = places (copy_to s.x v e) (copy_to s.y v e) in
    cond (start_at K (e - 1)) t
    (cond (same_at s.y e (e - 1)) (places t.x (copy_to t.y v (e - 1)))
    (cond (same_at s.x e (e - 1)) (places (copy_to t.x v (e - 1)) t.y) t))

-- what the row j moves, of the pair at i with its vertex v: `on` is what follows where a corner's wire goes on
unfoldable pub row_move : List ℕ → List ℕ → ℕ → ℕ → ℕ → Places → Places → Places
row_move K J j i v s on =
    cond (eqb (holder J j) v)
    (cond (corner J j)
    (cond (start_at K (joiner J j - 1)) (corner_move K s v (joiner J j)) on)
    (cond (eqb i v) (line_move s i (joiner J j)) s))
    s

-- what the first j rows move, of the pair at i with its vertex v; k is above the number of vertices from i on
unfoldable pub move : ℕ → List ℕ → List ℕ → ℕ → ℕ → ℕ → Places → Places
move zero K J j i v s = s
move (suc k) K J zero i v s = s
move (suc k) K J (suc j) i v s =
    let t = move (suc k) K J j i v s in
    let e = joiner J j in
    let on = move k K J (rows J) (e - 1) e (move k K J (rows J) (e - 1) (e - 1) (corner_move K t v e)) in
    row_move K J j i v t on

-- one row with what follows, as `move` has it
unfoldable pub row_step : ℕ → List ℕ → List ℕ → ℕ → ℕ → ℕ → Places → Places
row_step k K J j i v s =
    let e = joiner J j in
    let on = move k K J (rows J) (e - 1) e (move k K J (rows J) (e - 1) (e - 1) (corner_move K s v e)) in
    row_move K J j i v s on

-- the junctions of the pair at i, its first vertex's and then its second's
unfoldable pub move_junctions : List ℕ → List ℕ → ℕ → Places → Places
move_junctions K J i s =
    let n = length s.x in
    move n K J (rows J) i (i + 1) (move n K J (rows J) i i s)

-- the pair at i goes to the coordinate c
abbrev pub put_pair : List ℕ → ℕ → ℕ → List ℕ
put_pair l i c = set (set l i c) (i + 1) c

unfoldable pub move_pair : Bool → List ℕ → List ℕ → Places → ℕ → ℕ → Places
move_pair vertical K J s i c =
    move_junctions K J i (cond vertical (places (put_pair s.x i c) s.y) (places s.x (put_pair s.y i c)))

-- the pair of a key, moved by the offset of a track
abbrev pub move_key : Bool → List ℕ → List ℕ → ℕ → ℕ → Places → Places
move_key vertical K J key t s =
    let on = move_pair vertical K J s (pair_of key) (moved (corridor_of key) (track t)) in
    cond (eqb t 0) s on

-- the pair at place k of the keys, moved by the offset of its track
unfoldable pub move_at : Bool → List ℕ → List ℕ → List ℕ → List ℕ → ℕ → Places → Places
move_at vertical K J keys ts k s = move_key vertical K J (get_or keys k 0) (get_or ts k 0) s

-- the first k pairs
unfoldable pub moves_to : Bool → List ℕ → List ℕ → List ℕ → List ℕ → ℕ → Places → Places
moves_to vertical K J keys ts zero s = s
moves_to vertical K J keys ts (suc k) s = move_at vertical K J keys ts k (moves_to vertical K J keys ts k s)

-- coordinates that no offset brings near the ends of the numbers: from −2^30 to 2^30 steps
abbrev pub LOWEST : ℕ
LOWEST = 1073741824

abbrev pub HIGHEST : ℕ
HIGHEST = 3221225472

-- v is one of the two vertices of the pair at i of n vertices
pub record Side (n i v : ℕ) : Type 0 where
  pub from : i ≤ v
  pub to : v ≤ i + 1
  pub inside : i + 1 < n
