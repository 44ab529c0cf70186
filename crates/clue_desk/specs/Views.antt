-- A search and a layout as they are called, and what the contracts see of them.
use Rattle.std.specs.Prelude.{List, ℕ, ℤ}
use Rattle.fixed.specs.Up.{up}
use Rattle.desk_search.specs.Query.{query}
use Rattle.desk_search.specs.Search.{outputs as line}
use Rattle.page_layout.specs.Drawing.{drawing}
use Rattle.desk_layout.specs.Layout.{choice}
use Rattle.clue_desk.specs.Calls.{Call, Outputs}
use Rattle.clue_desk.specs.Calls.Call.{search, layout}
use Rattle.clue_desk.specs.Calls.Outputs.{lined, drawn}

abbrev pub Steps : Type 0
Steps = List ℤ

abbrev pub Words : Type 0
Words = List ℕ

-- a search: its arguments and the lists lent for its line; and the line that is left in them
abbrev pub search_call : ℕ → ℤ → ℤ → Steps → Steps → Steps → Steps → Words → Words → Call
search_call prune x y ex ey lx ly kinds dirs = search (query prune (up x) (up y) ex ey) (line lx ly kinds dirs)

abbrev pub line_left : Steps → Steps → Words → Words → Outputs
line_left lx ly kinds dirs = lined (line lx ly kinds dirs)

-- a layout: its arguments and the lists lent for its drawing; and the drawing that is left in them
abbrev pub layout_call : ℕ → ℕ → Words → Steps → Steps → Words → Words → Call
layout_call prune separate nets x y kinds joins = layout (choice prune separate) (drawing nets x y kinds joins)

abbrev pub drawing_left : Words → Steps → Steps → Words → Words → Outputs
drawing_left nets x y kinds joins = drawn (drawing nets x y kinds joins)
