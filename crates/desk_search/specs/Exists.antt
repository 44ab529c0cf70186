-- 01, demand 3, second half, at the level of the call. For every desk and list of ends that a search refuses neither by 1, 2 nor 8, whose places all hold a port or
-- an unported end: the number is 0 exactly if in the unpruned graph an end with a link is joined to the start by a chain of links, else 11; pruned or not.
use Rattle.std.specs.Prelude.{◌≡◌, false, List, [], ℕ, ◌<◌, length, get_or}
use Rattle.nodes.specs.Graph.{Graph}
use Rattle.line_exists.specs.Exists.{Joined}
use Rattle.page_graph.specs.Page.{graph_of_page}
use Rattle.book.specs.Book.{Lists, field}
use Rattle.desk.specs.Desk.{book_of}
use Rattle.select.specs.Page.{page_of}
use Rattle.desk_search.specs.Query.{Query}
use Rattle.desk_search.specs.Search.{Outputs, desk_number}

-- 'a place holds the ports and unported ends (mark 0) at its coordinates'
pub data Holds (l : Lists) (x y : ℕ) : Type 0 where
  port : (i : ℕ) → i < length l.ports → field 1 (get_or l.ports i []) ≡ x → field 2 (get_or l.ports i []) ≡ y → Holds l x y
  end : (i : ℕ) → i < length l.ends → field 1 (get_or l.ends i []) ≡ x → field 2 (get_or l.ends i []) ≡ y → field 3 (get_or l.ends i []) ≡ 0 → Holds l x y

pub record AllHold (l : Lists) (q : Query) : Type 0 where
  pub start : Holds l q.x q.y
  pub ends : (k : ℕ) → k < length q.end_x → Holds l (get_or q.end_x k 0) (get_or q.end_y k 0)

unfoldable pub unpruned : Lists → Graph
unpruned l = graph_of_page (page_of l) false

-- one of the ends has a link, and a chain of none or more links leads to it from the start
abbrev pub IsJoined : Lists → Query → Type 0
IsJoined l q = Joined (unpruned l) q.x q.y q.end_x q.end_y

pub record Decided (l : Lists) (q : Query) (n : ℕ) : Type 0 where
  pub found : IsJoined l q → n ≡ 0
  pub joined : n ≡ 0 → IsJoined l q
  pub missed : (IsJoined l q → ⊥) → n ≡ 11

abbrev pub SearchDecides : Type 0
SearchDecides =
    (ws : List ℕ) (o : Outputs) (q : Query)
    → (desk_number ws o q ≡ 1 → ⊥) → (desk_number ws o q ≡ 2 → ⊥) → (desk_number ws o q ≡ 8 → ⊥)
    → AllHold (book_of ws).lists q → Decided (book_of ws).lists q (desk_number ws o q)
