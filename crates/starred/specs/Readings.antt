-- 01's rules on closed pages where a plausible wrong reading answers otherwise, its 'Plausible drawings that are wrong' among them. For each row a must-fail edit puts the
-- wrong reading's answer in place of the right one.
use Rattle.std.specs.Prelude.{◌≡◌, true, false, List, [], ◌∷◌, ℕ, ◌+◌, ◌-◌, ◌*◌, pos, get_or, drop, replicate}
use Rattle.fixed.specs.Constants.{UNIT}
use Rattle.fixed.specs.Up.{BIAS}
use Rattle.corridors.specs.Cases.{downs, holes}
use Rattle.nodes.specs.Graph.{none, onward}
use Rattle.scan.specs.Scan.{Anchors}
use Rattle.anchors.specs.Records.{Records, records}
use Rattle.graph.specs.Build.{made}
use Rattle.graph.specs.Cases.{at}
use Rattle.page_graph.specs.Page.{anchors_of_page}
use Rattle.routing.specs.Roots.{root_pair}
use Rattle.wire.specs.Ends.{CORNER, LINE, junction_end}
use Rattle.net.specs.Points.{points_y}
use Rattle.net.specs.Cases.{no_boxes, number_of}
use Rattle.vertex.specs.declared.VertexKind.TheVariants.{WireStart, Dummy, Normal}
use Rattle.tracks.specs.Movement.{movement}
use Rattle.tracks.specs.declared.types.Movement.TheVariants.{Restricted, Locked}
use Rattle.layout.specs.Layout.{Page, blank}
use Rattle.layout.specs.Answer.{layout_page}
use Rattle.book.specs.declared.Kind.{Kind}
use Rattle.book.specs.Book.{room_number}

-- anchors at (10,0) PosX, (20,0) no direction, (0,0) PosX: the third scan meets the first node, which has a link onward already
abbrev pub facing : Anchors
facing =
    record { xs = at 10 ∷ at 20 ∷ at 0 ∷ []; ys = at 0 ∷ at 0 ∷ at 0 ∷ []; dirs = 2 ∷ 0 ∷ 2 ∷ []; boxes = none ∷ none ∷ none ∷ []; explicit = 3; count = 3 }

-- the boxes (0,0)-(20,20) and (100,0)-(120,20), whose first implicit anchor has x = 7681 steps, and a port at (20,10)
abbrev pub one_port : Records
one_port =
    records (1 ∷ at 0 ∷ at 0 ∷ at 20 ∷ at 20 ∷ 2 ∷ at 100 ∷ at 0 ∷ at 120 ∷ at 20 ∷ []) 2 (1 ∷ at 20 ∷ at 10 ∷ 2 ∷ []) 1 [] 0 [] 0

-- a page of nets and ends alone, laid out, pruned and separated
abbrev pub laid_out : List ℕ → ℕ → List ℕ → ℕ → Page
laid_out nets n ends e = layout_page (records [] 0 [] 0 nets n ends e) true true (blank 320 512 512 512 768)

-- net 1 with one endpoint, net 2 with two
abbrev pub one_and_two : Page
one_and_two =
    laid_out (1 ∷ 2 ∷ []) 2 (1 ∷ at 0 ∷ at 0 ∷ 0 ∷ 2 ∷ at 0 ∷ at 0 ∷ 0 ∷ 2 ∷ at 10 ∷ at 20 ∷ 0 ∷ []) 3

-- net 1 from (0,0) to (10,20), net 2 from (0,0) to (10,−20): their first stretches overlap, and net 1 gives way
abbrev pub overlapping : Page
overlapping =
    laid_out (1 ∷ 2 ∷ []) 2 (1 ∷ at 0 ∷ at 0 ∷ 0 ∷ 1 ∷ at 10 ∷ at 20 ∷ 0 ∷ 2 ∷ at 0 ∷ at 0 ∷ 0 ∷ 2 ∷ at 10 ∷ (BIAS - 20 * UNIT) ∷ 0 ∷ []) 4

-- two ends at (10,0), on a line segment and then on a corner
abbrev pub two_ends : List ℕ
two_ends = at 10 ∷ at 0 ∷ 2 ∷ LINE ∷ at 10 ∷ at 0 ∷ 7 ∷ CORNER ∷ []

pub record Readings : Type 0 where
  -- not: empty runs kept in order after one is taken out
  pub holes_filled : drop 12 (downs holes.ys) ≡ pos 51 ∷ pos 59 ∷ pos 31 ∷ pos 39 ∷ []
  -- not: a scan stopping before it links the node it met
  pub met_is_linked : onward (made no_boxes facing false) 1 2 ≡ 0
  -- not: implicit anchors before explicit ones
  pub explicit_first : get_or (anchors_of_page one_port).xs 0 0 ≡ at 20
  -- not: the last pair with the greatest size
  pub first_greatest : root_pair (at 0 ∷ at 10 ∷ at 10 ∷ []) (at 0 ∷ at 0 ∷ at 10 ∷ []) 3 ≡ 0 * 3 + 1
  -- not: an endpoint known by its x alone
  pub third_unknown : number_of true (at 0 ∷ at 20 ∷ at 10 ∷ []) (at 0 ∷ at 0 ∷ at 40 ∷ []) ≡ 13
  -- not: an end's mark in place of its y
  pub y_of_end : points_y (1 ∷ at 3 ∷ at 4 ∷ 0 ∷ []) 1 1 ≡ at 4 ∷ []
  -- not: the last end at the place
  pub first_end : junction_end two_ends 2 (at 10) (at 0) ≡ 0
  -- not: free, of a dummy and a normal corner, of a start and a normal corner
  pub dummy_restricted : movement Dummy Normal ≡ Restricted
  pub start_locked : movement (WireStart true) Normal ≡ Locked
  -- not: the nets after a refused one get its number
  pub next_is_tried : get_or one_and_two.nets 5 0 ≡ 0
  -- not: only the first net's wires are separated
  pub all_are_separated : get_or overlapping.wires.y 2 0 ≡ at 5
  -- not: a list that is full at one record less
  pub last_goes : room_number Kind.Net (replicate 63 []) ≡ 0
