-- The claims are not empty: a closed page and graph of them, and a net on it.
use mathlib.Core.Path.{◌≡◌, refl}
use mathlib.Core.Bool.{true}
use mathlib.Core.List.{[], ◌∷◌}
use Prim.Native.Nat.{ℕ, zero, suc, ◌<◌, ◌≤◌}
use native.Mathlib.Nat.{le_refl}
use native.Mathlib.Omega.{arith}
use lib.ListN.{length, get_or, replicate, length-replicate}
use Rattle.fixed.specs.Up.{BIAS}
use Rattle.sightline.specs.Count.{any, run}
use Rattle.sightline.specs.Sight.{stops, box_stops, blocked, clear_after, clear_before}
use Rattle.axis.specs.Axis.{rank, index, holds, insert, inserts}
use Rattle.nodes.specs.Graph.{stands, seek, find, mark_as, remark, push, place, linked, link}
use Rattle.scan.specs.Walk.{along, find_on, place_on, next, step, walk, reach, scan}
use Rattle.scan.specs.Scan.{fold, has, toward, scans, scan_anchor, mark, place_anchor, scan_at, build_nodes, build}
use Rattle.graph.specs.Build.{whole}
use Rattle.graph.specs.Cases.{at}
use Rattle.net.specs.Cases.{no_boxes, three, row, blank}
use Rattle.net.proofs.Cases as Nets
use Rattle.page_laws.specs.Connected.{Ground, Page, Connected}
use Rattle.page_laws.specs.Cases.{no_joins, two, Witness}
use Rattle.page_laws.proofs.Connect.{connect}
use Rattle.page_laws.proofs.Ranges.{made-ground, blank-page}

three-nodes : (whole no_boxes three).count ≡ 3
unfolding any run stops box_stops blocked clear_after clear_before rank index holds insert inserts stands seek find mark_as remark push place linked link along find_on place_on next step walk reach scan fold has toward scans scan_anchor mark place_anchor scan_at build_nodes build whole
three-nodes = refl

along-row : (k : ℕ) → k < 3 → (at 0 ≤ get_or three.xs k 0) × (get_or three.xs k 0 ≤ at 20)
along-row zero h = (omega arith, omega arith)
along-row (suc zero) h = (omega arith, omega arith)
along-row (suc (suc zero)) h = (omega arith, omega arith)
along-row (suc (suc (suc k))) h = absurd (omega arith)

on_row : (k : ℕ) → k < 3 → (at 0 ≤ get_or three.ys k 0) × (get_or three.ys k 0 ≤ at 20)
on_row zero h = (omega arith, omega arith)
on_row (suc zero) h = (omega arith, omega arith)
on_row (suc (suc zero)) h = (omega arith, omega arith)
on_row (suc (suc (suc k))) h = absurd (omega arith)

all_there : (k a : ℕ) → k ≤ length (replicate k a)
all_there k a = rw (length-replicate k a) (le_refl k)

ground : Ground (at 0) (at 20) (row true)
ground = made-ground (at 0) (at 20) (omega arith) no_boxes three true (omega (arith, three-nodes)) along-row on_row

page : Page (at 0) (at 20) blank no_joins 0
page = blank-page (at 0) (at 20) blank no_joins refl (record { of_x = all_there 512 BIAS; of_y = all_there 512 BIAS; of_kinds = all_there 512 0 }) (all_there 768 0)

made : Connected (at 0) (at 20) (at 0 ∷ at 20 ∷ []) (at 0 ∷ at 0 ∷ []) blank no_joins 0 two
made = connect (at 0) (at 20) (at 0 ∷ at 20 ∷ []) (at 0 ∷ at 0 ∷ []) blank no_joins 0 page (row true) ground

pub witness : Witness
witness = record { page = page; ground = ground; first = made.touched (Nets.cases).first_two 0 (omega arith); second = made.touched (Nets.cases).first_two 1 (omega arith) }
