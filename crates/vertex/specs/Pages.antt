-- 01, 'Nets': the vertices and junctions of a page as the lent lists hold them, and what they keep. All vertex indices are the page's. A junction is a
-- row of three words: the vertex that holds it, the end vertex that joins there, and its kind's letter, C for a corner and L for a line segment.
use Rattle.std.specs.Prelude.{◌≡◌, Bool, true, cond, List, ℕ, ◌+◌, ◌-◌, ◌*◌, ◌/◌, ◌<◌, ◌≤◌, eqb, length, get_or, Some}
use Rattle.vertex.specs.Kinds.{kind_of, start, end, Junction}
use Rattle.vertex.specs.declared.JunctionKind.TheVariants.{Corner, LineSegment}
use Rattle.vertex.specs.declared.VertexKind.{VertexKind}
use Rattle.vertex.specs.declared.VertexKind.TheVariants.{WireEnd}

-- 512 vertices a page
abbrev pub VERTICES : ℕ
VERTICES = 512

abbrev pub rows : List ℕ → ℕ
rows J = length J / 3

abbrev pub holder : List ℕ → ℕ → ℕ
holder J j = get_or J (3 * j) 0

abbrev pub joiner : List ℕ → ℕ → ℕ
joiner J j = get_or J (3 * j + 1) 0

-- whether the row j is a corner: its letter is C
abbrev pub corner : List ℕ → ℕ → Bool
corner J j = eqb (get_or J (3 * j + 2) 0) 67

-- the kind of the vertex i
abbrev pub kind_at : List ℕ → ℕ → VertexKind
kind_at K i = kind_of (get_or K i 0)

-- what an end carries that joins by such a row
abbrev pub carried : Bool → Junction
carried is_corner = cond is_corner (Some Corner) (Some LineSegment)

-- the junctions of n vertices: a wire that joins comes after what it joins, and has a vertex before its end
pub record Joined (n : ℕ) (J : List ℕ) : Type 0 where
  pub after : (j : ℕ) → j < rows J → holder J j + 1 < joiner J j
  pub inside : (j : ℕ) → j < rows J → joiner J j < n

-- the kinds of n vertices: wires one after another, each from a start to an end
pub record Wired (n : ℕ) (K : List ℕ) : Type 0 where
  pub first : 0 < n → start (kind_at K 0) ≡ true
  pub next : (i : ℕ) → i + 1 < n → start (kind_at K (i + 1)) ≡ end (kind_at K i)
  pub last : 0 < n → end (kind_at K (n - 1)) ≡ true

-- kinds and junctions agree: what joins is an end, and carries the kind of its junction
pub record Ended (K J : List ℕ) : Type 0 where
  pub joins : (j : ℕ) → j < rows J → kind_at K (joiner J j) ≡ WireEnd (carried (corner J j))

-- the coordinates of n vertices lie from lo to hi
pub record Within (lo hi n : ℕ) (l : List ℕ) : Type 0 where
  pub low : (i : ℕ) → i < n → lo ≤ get_or l i 0
  pub high : (i : ℕ) → i < n → get_or l i 0 ≤ hi
