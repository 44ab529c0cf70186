-- 01, 'Cases at the edges': the marked cases of the graph, from record rows. A box is its id, least x, least y, greatest x and greatest y; a port its box's id, x, y and
-- directions.
use Rattle.std.specs.Prelude.{◌≡◌, true, false, [], ◌∷◌, pos, negsuc}
use Rattle.corridors.specs.Cases.{downs}
use Rattle.anchors.specs.Records.{Records, records}
use Rattle.graph.specs.Cases.{at}
use Rattle.page_graph.specs.Page.{anchors_of_page, crowded, graph_of_page}

-- *'boxes (0,0)-(20,20) and (100,0)-(120,20)'
abbrev pub two_boxes : Records
two_boxes =
    records (1 ∷ at 0 ∷ at 0 ∷ at 20 ∷ at 20 ∷ 2 ∷ at 100 ∷ at 0 ∷ at 120 ∷ at 20 ∷ []) 2 [] 0 [] 0 [] 0

-- *'one box with ports (0,0) PosX, (20,0) NegX, (10,40) no direction, the box at the point (1000,1000)'
abbrev pub one_box : Records
one_box =
    records (1 ∷ at 1000 ∷ at 1000 ∷ at 1000 ∷ at 1000 ∷ []) 1 (1 ∷ at 0 ∷ at 0 ∷ 2 ∷ 1 ∷ at 20 ∷ at 0 ∷ 1 ∷ 1 ∷ at 10 ∷ at 40 ∷ 0 ∷ []) 3 [] 0 [] 0

pub record Cases : Type 0 where
  -- 'implicit anchors, in steps, (7681,2560), (23039,2560), (15360,−2559), (15360,7679); 5 nodes, pruned 5'
  pub anchor_xs : downs (anchors_of_page two_boxes).xs ≡ pos 7681 ∷ pos 23039 ∷ pos 15360 ∷ pos 15360 ∷ []
  pub anchor_ys : downs (anchors_of_page two_boxes).ys ≡ pos 2560 ∷ pos 2560 ∷ negsuc 2558 ∷ pos 7679 ∷ []
  pub five_roomy : crowded two_boxes ≡ false
  pub five_nodes : (graph_of_page two_boxes false).count ≡ 5
  pub five_pruned : (graph_of_page two_boxes true).count ≡ 5
  -- '4 nodes, pruned 3'
  pub four_roomy : crowded one_box ≡ false
  pub four_nodes : (graph_of_page one_box false).count ≡ 4
  pub three_pruned : (graph_of_page one_box true).count ≡ 3
