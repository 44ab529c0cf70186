-- 01, 'Search' and 'Numbers handed back': a search on a desk. What it answers is a definition over the lists, the arguments and the lent sizes alone.
-- The line is handed back entry by entry, zeros behind it; its last node, and no other, has the kind E, so the kinds say how many nodes it has.
use Rattle.std.specs.Prelude.{List, Bool, cond, ◌&&◌, ℕ, eqb, leb, ℤ, length, replicate}
use Rattle.fixed.specs.Up.{BIAS, ups}
use Rattle.nodes.specs.Graph.{Graph, NODES}
use Rattle.path_finding.specs.Line.{table, place_at, kind_at, direction_at}
use Rattle.page_graph.specs.Page.{graph_of_page}
use Rattle.page_search.specs.Page.{search_number as page_number, search_line as page_line}
use Rattle.desk.specs.Sizes.{DESK}
use Rattle.book.specs.Book.{Lists, Seen, ranged, answer}
use Rattle.desk.specs.Desk.{seen_of}
use Rattle.select.specs.Page.{page_of}
use Rattle.desk_search.specs.Query.{Query, is_pruned, ok_query}

-- the line's places, counted from −2^31, kinds and directions
pub record Outputs : Type 0 where
  pub xs : List ℕ
  pub ys : List ℕ
  pub kinds : List ℕ
  pub dirs : List ℕ

abbrev pub outputs : List ℤ → List ℤ → List ℕ → List ℕ → Outputs
outputs lx ly kinds dirs = record { xs = ups lx; ys = ups ly; kinds = kinds; dirs = dirs }

-- ---- by the lists alone

unfoldable pub graph_of : Lists → Query → Graph
graph_of l q = graph_of_page (page_of l) (is_pruned q)

-- 8, or 9, 10, 11 or 0 on the graph
unfoldable pub search_number : Lists → Query → ℕ
search_number l q = page_number (page_of l) (is_pruned q) q.x q.y q.end_x q.end_y

-- 'a line is its nodes from start to end'
unfoldable pub search_line : Lists → Query → List ℕ
search_line l q = page_line (page_of l) (is_pruned q) q.x q.y q.end_x q.end_y

-- 'place, kind, direction onward', in lists of the lent lengths, zeros behind the line
unfoldable pub written : Graph → List ℕ → Outputs → Outputs
written g line o =
    record {
      xs = table (place_at g.xs line) (length o.xs);
      ys = table (place_at g.ys line) (length o.ys);
      kinds = table (kind_at (length line)) (length o.kinds);
      dirs = table (direction_at g.links line) (length o.dirs);
    }

-- 'outputs zero'
unfoldable pub zeros : Outputs → Outputs
zeros o =
    record {
      xs = replicate (length o.xs) BIAS;
      ys = replicate (length o.ys) BIAS;
      kinds = replicate (length o.kinds) 0;
      dirs = replicate (length o.dirs) 0;
    }

-- by the number: 'outputs, zeros behind them' at 0, else 'outputs zero'
unfoldable pub left : ℕ → Lists → Query → Outputs → Outputs
left n l q o = cond (eqb n 0) (written (graph_of l q) (search_line l q) o) (zeros o)

-- ---- of a call that is lent `size` words of the desk

-- the lists have room for 4,096 nodes
abbrev pub roomy : Outputs → Bool
roomy o = (leb NODES (length o.xs) && leb NODES (length o.ys)) && (leb NODES (length o.kinds) && leb NODES (length o.dirs))

-- and the desk is lent whole
unfoldable pub is_lent : ℕ → Outputs → Bool
is_lent size o = leb DESK size && roomy o

-- 2 comes before the numbers of the search
unfoldable pub tested : Seen → Query → ℕ
tested s q = answer s.sound (ranged (ok_query q)) (search_number s.lists q)

unfoldable pub says : ℕ → Outputs → Query → Seen → ℕ
says size o q s = cond (is_lent size o) (tested s q) 1

-- 'everything unchanged' at 1
unfoldable pub shows : ℕ → Outputs → Query → Seen → Outputs
shows size o q s = cond (is_lent size o) (left (tested s q) s.lists q o) o

-- on the words of a desk: what the function's contract says
abbrev pub desk_number : List ℕ → Outputs → Query → ℕ
desk_number ws o q = says (length ws) o q (seen_of ws)

abbrev pub desk_outputs : List ℕ → Outputs → Query → Outputs
desk_outputs ws o q = shows (length ws) o q (seen_of ws)
