-- What `graph_of` asks of a page's records, and what it answers.
use Rattle.std.specs.Prelude.{◌≡◌, Bool, true, false, List, ℕ, ◌≤◌, length, Option, Some, None}
use Rattle.fixed.specs.Constants.{BOXES}
use Rattle.sightline.specs.Boxes.{Fields}
use Rattle.nodes.specs.Graph.{Graph}
use Rattle.anchors.specs.Records.{BOX, Records, RowsHeld}
use Rattle.anchors.specs.Explicit.{explicit}

-- 01, 'Limits': 256 ports and 256 endpoints
abbrev pub EXPLICIT : ℕ
EXPLICIT = 512

-- the edges of the boxes are coordinates of a page
pub record Edged (rows : List ℕ) (n : ℕ) : Type 0 where
  pub least_x : Fields rows BOX 1 n
  pub least_y : Fields rows BOX 2 n
  pub greatest_x : Fields rows BOX 3 n
  pub greatest_y : Fields rows BOX 4 n

-- what is asked of the records: they are there, within 01's limits
pub record Asked (r : Records) : Type 0 where
  pub held : RowsHeld r
  pub few_boxes : r.box_count ≤ BOXES
  pub edged : Edged r.boxes r.box_count
  pub few_explicit : length (explicit r).xs ≤ EXPLICIT

-- None if the page is crowded, else the graph that is handed back is the page's, g
abbrev pub Answered : {A : Type 0} → Option A → Graph → Bool → Graph → Type 0
Answered None v full g = full ≡ true
Answered (Some _) v full g = (full ≡ false) × (v ≡ g)
