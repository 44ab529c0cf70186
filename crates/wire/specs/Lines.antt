-- 01, 'Search': a line is its nodes from start to end: place, kind (the letter S, N or E), direction onward. Here as columns, of which the first
-- `count` entries are the line.
use Rattle.std.specs.Prelude.{Bool, ◌&&◌, cond, List, ℕ, zero, suc, ◌+◌, ◌-◌, eqb, length, get_or}
use Rattle.nodes.specs.Graph.{Graph}
use Rattle.path_finding.specs.Line.{table, place_at, kind_at, direction_at}

pub record Line : Type 0 where
  pub x : List ℕ
  pub y : List ℕ
  pub kinds : List ℕ
  pub ways : List ℕ
  pub count : ℕ

abbrev pub line : List ℕ → List ℕ → List ℕ → List ℕ → ℕ → Line
line x y kinds ways count = record { x = x; y = y; kinds = kinds; ways = ways; count = count }

abbrev pub NORMAL : ℕ
NORMAL = 78

-- `iter_pruned` drops a normal node whose direction equals the previous node's
unfoldable pub straight : List ℕ → List ℕ → ℕ → Bool
straight kinds ways i = eqb (get_or kinds i 0) NORMAL && eqb (get_or ways i 0) (get_or ways (i - 1) 0)

-- how many of the k nodes behind the first are kept
unfoldable pub kept : List ℕ → List ℕ → ℕ → ℕ
kept kinds ways zero = zero
kept kinds ways (suc k) =
    let before = kept kinds ways k in
    cond (straight kinds ways (suc k)) before (before + 1)

abbrev pub goes_on : Line → ℕ → Bool
goes_on L i = straight L.kinds L.ways i

abbrev pub kept_to : Line → ℕ → ℕ
kept_to L k = kept L.kinds L.ways k

-- the line of the nodes l of a graph: exactly their places, kinds and directions onward
abbrev pub line_of : Graph → List ℕ → Line
line_of G l =
    line (table (place_at G.xs l) (length l)) (table (place_at G.ys l) (length l)) (table (kind_at (length l)) (length l)) (table (direction_at G.links l) (length l)) (length l)
