-- 01, 'Program `wires`': the listing's bytes. Each line opens with its word; tabs part fields, LF ends it; indices start at 0 in each net.
use Rattle.std.specs.Prelude.{◌≡◌, cond, List, [], ◌∷◌, ◌++◌, ℕ, zero, suc, ◌+◌, ◌-◌, ◌*◌, ◌%◌, ◌≤◌, eqb, length, get_or, take}
use Rattle.decimals.specs.Bytes.{LF}
use Rattle.decimals.specs.Write.{digits, signed, tabbed}

-- the pieces f 0, f 1, .. below n, one after another
unfoldable pub up_to : (ℕ → List ℕ) → ℕ → List ℕ
up_to f zero = []
up_to f (suc n) = up_to f n ++ f n

-- a line: its word, then the fields
unfoldable pub line : List ℕ → List (List ℕ) → List ℕ
line word fields = word ++ (tabbed fields ++ (LF ∷ []))

-- a laid-out page: rows of five words a net (number, first vertex, vertices, first junction, junctions), a net's id, the vertices' coordinates and
-- letters, and rows of three words a junction (vertex, joining end vertex, letter), all indices of the whole page
pub record Page : Type 0 where
  pub nets : List ℕ
  pub ids : List ℕ
  pub xs : List ℕ
  pub ys : List ℕ
  pub kinds : List ℕ
  pub junctions : List ℕ

abbrev pub page : List ℕ → List ℕ → List ℕ → List ℕ → List ℕ → List ℕ → Page
page nets ids xs ys kinds junctions =
    record { nets = nets; ids = ids; xs = xs; ys = ys; kinds = kinds; junctions = junctions }

abbrev pub NET : ℕ
NET = 5

abbrev pub JUNCTION : ℕ
JUNCTION = 3

-- `v` lines: index, x, y in steps, letter
unfoldable pub vertex_line : List ℕ → List ℕ → List ℕ → ℕ → ℕ → List ℕ
vertex_line xs ys kinds first k =
    line (118 ∷ []) (digits k ∷ signed (get_or xs (first + k) 0) ∷ signed (get_or ys (first + k) 0) ∷ (get_or kinds (first + k) 0 ∷ []) ∷ [])

-- `j` lines: vertex, joining end vertex, C or L
unfoldable pub join_line : ℕ → ℕ → ℕ → List ℕ
join_line v e letter = line (106 ∷ []) (digits v ∷ digits e ∷ (letter ∷ []) ∷ [])

-- the line of the junction row r, if it is one of the vertex v of the net that begins at `first`
unfoldable pub join_at : List ℕ → ℕ → ℕ → ℕ → List ℕ
join_at junctions first v r =
    cond (eqb (get_or junctions (r * JUNCTION) 0) (first + v)) (join_line v (get_or junctions (r * JUNCTION + 1) 0 - first) (get_or junctions (r * JUNCTION + 2) 0 % 256)) []

-- by vertex and then as they were made: those of the vertex v, among `count` rows from `begin` on
unfoldable pub join_from : List ℕ → ℕ → ℕ → ℕ → ℕ → List ℕ
join_from junctions first v begin j = join_at junctions first v (begin + j)

unfoldable pub joins_of : List ℕ → ℕ → ℕ → ℕ → ℕ → List ℕ
joins_of junctions first begin count v = up_to (join_from junctions first v begin) count

-- `net`, id, number, vertices, junctions
unfoldable pub net_line : ℕ → ℕ → ℕ → ℕ → List ℕ
net_line id number vertices junctions =
    line (110 ∷ 101 ∷ 116 ∷ []) (digits id ∷ digits number ∷ digits vertices ∷ digits junctions ∷ [])

-- what is printed of a net: its line, its vertices, its junctions
unfoldable pub net_part : Page → ℕ → ℕ → ℕ → ℕ → ℕ → ℕ → List ℕ
net_part p id number first vertices begin junctions =
    (net_line id number vertices junctions ++ up_to (vertex_line p.xs p.ys p.kinds first) vertices) ++ up_to (joins_of p.junctions first begin junctions) vertices

unfoldable pub net_at : Page → ℕ → List ℕ
net_at p i =
    net_part p (get_or p.ids i 0) (get_or p.nets (i * NET) 0) (get_or p.nets (i * NET + 1) 0) (get_or p.nets (i * NET + 2) 0) (get_or p.nets (i * NET + 3) 0) (get_or p.nets (i * NET + 4) 0)

-- the nets in kept order
unfoldable pub listing : Page → ℕ → List ℕ
listing p n = up_to (net_at p) n

-- a refused text prints only `refused`, line, inner number
unfoldable pub refused_line : ℕ → ℕ → List ℕ
refused_line at inner = line (114 ∷ 101 ∷ 102 ∷ 117 ∷ 115 ∷ 101 ∷ 100 ∷ []) (digits at ∷ digits inner ∷ [])

-- a crowded page only `page`, 8
unfoldable pub crowded_line : List ℕ
crowded_line = line (112 ∷ 97 ∷ 103 ∷ 101 ∷ []) (digits 8 ∷ [])

-- the first n bytes of a buffer are there; the second part follows from the first, and is what lending them asks
abbrev pub First : ℕ → List ℕ → Type 0
First n buf = (n ≤ length buf) × (n ≡ length (take n buf))
