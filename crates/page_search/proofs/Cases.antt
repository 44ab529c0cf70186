-- The marked case of the search as records, by computing; `PageLineExists` is not empty, and there it decides both ways.
use mathlib.Core.Path.{◌≡◌, refl}
use mathlib.Core.Bool.{Bool, true, false}
use mathlib.Core.List.{List, [], ◌∷◌}
use Prim.Native.Nat.{ℕ, zero, suc, ◌+◌, ◌*◌, ◌<◌, ◌≤◌}
use native.Mathlib.Omega.{arith}
use lib.ListN.{length, get_or}
use Rattle.sightline.specs.Boxes.{padded, edges as padded-edges, Fields}
use Rattle.axis.specs.Axis.{rank, index, holds, insert, inserts}
use Rattle.corridors.specs.Grid.{covers, covered, filled, last, ends_at, add_cell, with_cell, runs, row_runs, all_runs}
use Rattle.corridors.specs.Merge as Implicit
use Rattle.corridors.specs.Merge.{has, swap_remove, take_out, yield, corridor, row_corridors, corridors, crossed, directions}
use Rattle.astar.specs.Reached.{LIMIT}
use Rattle.anchors.specs.Records.{BOX, ROW}
use Rattle.anchors.specs.Explicit.{push, takes, ways, ignored, with_row, with_key, with_keys, port_anchors, explicit}
use Rattle.graph.specs.Build.{made}
use Rattle.graph.specs.Cases.{at, one_box, ports}
use Rattle.line_exists.proofs.Cases as Lines
use Rattle.page_graph.specs.Cases.{one_box as three-ports}
use Rattle.page_graph.proofs.Cases as Pages
use Rattle.page_graph.specs.Lent.{EXPLICIT}
use Rattle.page_graph.specs.Page.{padded_boxes, implicit, then_implicit, all_anchors, boxes_of_page, anchors_of_page, crowded, graph_of_page}
use Rattle.page_search.specs.Page.{search_number}
use Rattle.page_search.specs.Exists.{Keyed, Sound, Owned, Holds, port, Asked}
use Rattle.page_search.specs.Cases.{Cases}
use Rattle.page_search.proofs.Theorem.{page-line-exists}

-- ---- its boxes and anchors are those of the marked case of the graph

boxes-are : boxes_of_page three-ports ≡ one_box
unfolding boxes_of_page padded_boxes padded-edges padded
boxes-are = refl

anchors-are : all_anchors one_box (explicit three-ports) ≡ ports
unfolding all_anchors then_implicit directions explicit port_anchors push takes ways ignored with_row with_key with_keys implicit Implicit.implicit rank index holds insert inserts covers covered filled last ends_at add_cell with_cell runs row_runs all_runs has swap_remove take_out yield corridor Implicit.fold row_corridors corridors crossed
anchors-are = refl

graph_is : (pruned : Bool) → graph_of_page three-ports pruned ≡ made one_box ports pruned
unfolding graph_of_page anchors_of_page
graph_is pruned = rw (boxes-are, anchors-are)

roomy : crowded three-ports ≡ false
roomy = (Pages.cases).four_roomy

-- ---- what is asked

-- a list of words, each of 32 bits
abbrev Low : List ℕ → Type 0
Low [] = Unit {0}
Low (a ∷ l) = (a < LIMIT) × Low l

low : (l : List ℕ) → Low l → (k : ℕ) → get_or l k 0 < LIMIT
low [] h k = omega arith
low (a ∷ l) h zero = h.0
low (a ∷ l) h (suc k) = low l h.1 k

edge : (field : ℕ) → 0 < field → field < 5 → get_or three-ports.boxes field 0 ≡ at 1000 → Fields three-ports.boxes BOX field 1
edge field p h e = record { there = λ i l. there i l; least = λ i l. omega (arith, is i l); greatest = λ i l. omega (arith, is i l) }
  where
    there : (i : ℕ) → i < 1 → i * BOX + field < 5
    there i l = omega arith

    is : (i : ℕ) → i < 1 → get_or three-ports.boxes (i * BOX + field) 0 ≡ at 1000
    is i l = let z : i * BOX + field ≡ field = omega arith in rw z e

few : length (explicit three-ports).xs ≤ EXPLICIT
unfolding explicit port_anchors push takes ways ignored with_row with_key with_keys
few = omega arith

sound : Sound three-ports
sound =
    record {
      rows = record { held = record { boxes_held = omega arith; ports_held = omega arith; nets_held = omega arith; ends_held = omega arith; few_boxes = omega arith; few_nets = omega arith }; few_boxes = omega arith; few_explicit = few; edged = record { least_x = edge 1 (omega arith) (omega arith) refl; least_y = edge 2 (omega arith) (omega arith) refl; greatest_x = edge 3 (omega arith) (omega arith) refl; greatest_y = edge 4 (omega arith) (omega arith) refl } };
      port_words = low three-ports.ports (omega arith, (omega arith, (omega arith, (omega arith, (omega arith, (omega arith, (omega arith, (omega arith, (omega arith, (omega arith, (omega arith, (omega arith, tt))))))))))));
      end_words = low [] tt;
    }

owned : Owned three-ports
owned = record { box_there = own; net_there = λ k h. absurd (omega arith) }
  where
    own : (k : ℕ) → k < 3 → Keyed three-ports.boxes BOX 1 (get_or three-ports.ports (k * ROW) 0)
    own zero h = record { row = 0; listed = omega arith; is = refl }
    own (suc zero) h = record { row = 0; listed = omega arith; is = refl }
    own (suc (suc zero)) h = record { row = 0; listed = omega arith; is = refl }
    own (suc (suc (suc k))) h = absurd (omega arith)

held : (k : ℕ) → k < 3 → Holds three-ports (get_or three-ports.ports (k * ROW + 1) 0) (get_or three-ports.ports (k * ROW + 2) 0)
held k h = port k (record { listed = h; x_is = refl; y_is = refl })

asked : (e : ℕ) → e < 3 → Asked three-ports (at 0) (at 0) (get_or three-ports.ports (e * ROW + 1) 0 ∷ []) (get_or three-ports.ports (e * ROW + 2) 0 ∷ [])
asked e h = record { sound = sound; owned = owned; roomy = roomy; start = held 0 (omega arith); ends = to }
  where
    to : (k : ℕ) → k < 1 → Holds three-ports (get_or (get_or three-ports.ports (e * ROW + 1) 0 ∷ []) k 0) (get_or (get_or three-ports.ports (e * ROW + 2) 0 ∷ []) k 0)
    to zero l = held e h
    to (suc k) l = absurd (omega arith)

-- ---- the cases

second : search_number three-ports true (at 0) (at 0) (at 20 ∷ []) (at 0 ∷ []) ≡ 0
unfolding search_number
second = rw (roomy, graph_is true) (Lines.cases).second

third : search_number three-ports true (at 0) (at 0) (at 10 ∷ []) (at 40 ∷ []) ≡ 11
unfolding search_number
third = rw (roomy, graph_is true) (Lines.cases).third

pub cases : Cases
cases =
    record {
      second = second;
      third = third;
      asked_second = asked 1 (omega arith);
      asked_third = asked 2 (omega arith);
      joined_second = (page-line-exists _ _ _ _ _ (asked 1 (omega arith))).joined true second;
      apart_third = λ j. omega (arith, (page-line-exists _ _ _ _ _ (asked 2 (omega arith))).found true j, third);
    }
