-- 01, 'Desk and page text' and 'Numbers handed back' 2: the arguments of a search. Coordinates are steps counted from −2^31.
use Rattle.std.specs.Prelude.{List, Bool, ◌&&◌, ℕ, eqb, leb, ℤ, length}
use Rattle.fixed.specs.Constants.{LEAST, GREATEST}
use Rattle.fixed.specs.Up.{ups}
use Rattle.rows.specs.Rows.{scan}
use Rattle.book.specs.Book.{ok_place}

-- prune is 1 for the pruned graph, 0 for the unpruned one; a start, and ends
pub record Query : Type 0 where
  pub prune : ℕ
  pub x : ℕ
  pub y : ℕ
  pub end_x : List ℕ
  pub end_y : List ℕ

abbrev pub query : ℕ → ℕ → ℕ → List ℤ → List ℤ → Query
query prune x y ex ey = record { prune = prune; x = x; y = y; end_x = ups ex; end_y = ups ey }

abbrev pub is_pruned : Query → Bool
is_pruned q = eqb q.prune 1

-- 4,096 ends a search
abbrev pub ENDS : ℕ
ENDS = 4096

-- 'a searched place's coordinates are fields too'
unfoldable pub ok_step : ℕ → List ℕ → Bool
ok_step u us = leb LEAST u && leb u GREATEST

unfoldable pub ok_ends : List ℕ → List ℕ → Bool
ok_ends exs eys = (eqb (length exs) (length eys) && leb (length exs) ENDS) && (scan ok_step exs && scan ok_step eys)

unfoldable pub ok_query : Query → Bool
ok_query q = (leb q.prune 1 && ok_place q.x q.y) && ok_ends q.end_x q.end_y
