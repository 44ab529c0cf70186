-- What a page is drawn in, and all nets on it.
use Rattle.std.specs.Prelude.{◌≡◌, List, ℕ, ℤ, length}
use Rattle.fixed.specs.Up.{ups}
use Rattle.nodes.specs.Graph.{Graph}
use Rattle.anchors.specs.Records.{Records}
use Rattle.wire.specs.declared.types.Wires.{Wires}
use Rattle.wire.specs.Wires.{vertices}
use Rattle.wire.specs.Lent.{wires_of}
use Rattle.routing.specs.declared.types.Joins.{Joins}
use Rattle.layout.specs.declared.types.Sheet.{Sheet}
use Rattle.layout.specs.Layout.{Page, page, blank, nets_to}

abbrev pub page_of : List ℕ → Wires → Joins → Page
page_of nets w j = page nets (wires_of w).page j.rows.now j.j

-- a page of n vertices and j junctions: in lists that are lent one by one, and in a sheet
abbrev pub page_lent : List ℕ → List ℤ → List ℤ → List ℕ → List ℕ → ℕ → ℕ → Page
page_lent nets x y letters joins n j = page nets (vertices (ups x) (ups y) letters n) joins j

abbrev pub page_in : ℕ → ℕ → Sheet → Page
page_in n j s = page_lent s.nets.now s.x.now s.y.now s.letters.now s.joins.now n j

-- a page with no net
abbrev pub blank_in : Sheet → Page
blank_in s = blank (length s.nets.now) (length s.x.now) (length s.y.now) (length s.letters.now) (length s.joins.now)

abbrev pub all_nets : Graph → Records → Page → Page
all_nets G r P = nets_to G r.nets r.ends r.end_count r.net_count P

-- the same lent lists
pub record KeptSheet (s t : Sheet) : Type 0 where
  pub same_nets : t.nets.ghost_name ≡ s.nets.ghost_name
  pub same_x : t.x.ghost_name ≡ s.x.ghost_name
  pub same_y : t.y.ghost_name ≡ s.y.ghost_name
  pub same_letters : t.letters.ghost_name ≡ s.letters.ghost_name
  pub same_joins : t.joins.ghost_name ≡ s.joins.ghost_name
