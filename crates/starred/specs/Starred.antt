-- 01, 'Cases at the edges': the cases marked *, in one table under one statement. Units are 256 steps.
use Rattle.std.specs.Prelude.{◌≡◌, true, false, List, [], ◌∷◌, ℕ, ◌-◌, ◌*◌, pos}
use Rattle.fixed.specs.Constants.{UNIT}
use Rattle.fixed.specs.Up.{up}
use Rattle.fixed.specs.Steps.{penalty}
use Rattle.sightline.specs.Sight.{Line, blocked}
use Rattle.sightline.specs.Boxes.{edges}
use Rattle.tracks.specs.Cases as Tracks
use Rattle.routing.specs.Cases as Nets
use Rattle.corridors.specs.Cases as Corridors
use Rattle.graph.specs.Cases as Graphs
use Rattle.path_finding.specs.Cases as Searches
use Rattle.line_exists.specs.Cases as Lines
use Rattle.page_graph.specs.Cases as Pages
use Rattle.page_search.specs.Cases as PageSearches
use Rattle.net.specs.Cases as InARow

-- a number of units, as a coordinate
abbrev pub at_unit : ℕ → ℕ
at_unit u = up (pos (u * UNIT))

-- one box, a row of five words, whose padded least x is 90
abbrev pub box_row : List ℕ
box_row = 1 ∷ at_unit 100 ∷ at_unit 0 ∷ at_unit 120 ∷ at_unit 20 ∷ []

-- the horizontal line at y = 0, no box ignored
abbrev pub box_line : Line
box_line =
    record { low = edges box_row 5 2 false 1; high = edges box_row 5 4 true 1; from = edges box_row 5 1 false 1; to = edges box_row 5 3 true 1; count = 1; at = at_unit 0; ignore = 1 }

pub record Starred : Type 0 where
  -- box padded from x = 90: a line from 0 reaching 90 is blocked, to one step less clear
  pub reaching_90 : blocked box_line (at_unit 0) (at_unit 90) ≡ true
  pub one_step_less : blocked box_line (at_unit 0) (at_unit 90 - 1) ≡ false
  -- straight run 700: penalty 50. Run 800: 64
  pub run_700 : penalty (700 * UNIT) ≡ 50 * UNIT
  pub run_800 : penalty (800 * UNIT) ≡ 64 * UNIT
  -- tracks 0 to 4; runs 5 apart overlap, 5 and a step do not
  pub tracks : Tracks.Cases
  -- endpoints (0,0), (30,30), (10,0)
  pub nets : Nets.Cases
  -- boxes (0,0)-(20,20) and (100,0)-(120,20): the implicit anchors; and the nodes of these, and of the box with three ports
  pub anchors : Corridors.TwoBoxes
  pub graphs : Graphs.Cases
  -- no ends: 11; unknown start as well: 9
  pub searches : Searches.Cases
  -- one box with three ports: first to third port is 11
  pub lines : Lines.Cases
  -- the same cases of graphs and searches, from a page's records
  pub pages : Pages.Cases
  pub page_searches : PageSearches.Cases
  -- endpoints (0,0), (20,0), (10,0), no boxes: 14
  pub in_a_row : InARow.Cases
