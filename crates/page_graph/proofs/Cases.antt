-- The marked cases, from record rows by computing.
use mathlib.Core.Path.{refl}
use Rattle.fixed.specs.Up.{down}
use Rattle.sightline.specs.Boxes.{padded, edges}
use Rattle.sightline.specs.Count.{any, run}
use Rattle.sightline.specs.Sight.{stops, box_stops, blocked, clear_after, clear_before}
use Rattle.axis.specs.Axis.{rank, index, holds, insert, inserts}
use Rattle.corridors.specs.Cases.{downs}
use Rattle.corridors.specs.Grid.{covers, covered, filled, last, ends_at, add_cell, with_cell, runs, row_runs, all_runs}
use Rattle.corridors.specs.Merge as Merge
use Rattle.corridors.specs.Merge.{crossed, swap_remove, take_out, yield, corridor, row_corridors, corridors, directions}
use Rattle.nodes.specs.Graph as Nodes
use Rattle.nodes.specs.Graph.{stands, seek, find, mark_as, remark, place, linked, link}
use Rattle.scan.specs.Walk.{along, find_on, place_on, next, step, walk, reach, scan}
use Rattle.scan.specs.Scan.{fold, has, toward, scans, scan_anchor, mark, place_anchor, scan_at, build_nodes, build}
use Rattle.prune.specs.Prune.{only, straight, moved_links, moved, back, backs, relink, shrink, drop_node, join, prune_by, prune_at, prune_from, prune}
use Rattle.anchors.specs.Explicit.{push, takes, ways, ignored, with_row, with_key, with_keys, port_anchors, explicit}
use Rattle.graph.specs.Build.{whole, made}
use Rattle.page_graph.specs.Page.{padded_boxes, implicit, then_implicit, all_anchors, overfull, boxes_of_page, anchors_of_page, crowded, graph_of_page}
use Rattle.page_graph.specs.Cases.{Cases}

pub cases : Cases
unfolding down padded edges any run stops box_stops blocked clear_after clear_before rank index holds insert inserts downs covers covered filled last ends_at add_cell with_cell runs row_runs all_runs Merge.implicit Merge.has Merge.fold crossed swap_remove take_out yield corridor row_corridors corridors directions Nodes.push stands seek find mark_as remark place linked link along find_on place_on next step walk reach scan fold has toward scans scan_anchor mark place_anchor scan_at build_nodes build only straight moved_links moved back backs relink shrink drop_node join prune_by prune_at prune_from prune push takes ways ignored with_row with_key with_keys port_anchors explicit whole made padded_boxes implicit then_implicit all_anchors overfull boxes_of_page anchors_of_page crowded graph_of_page
cases =
    record { anchor_xs = refl; anchor_ys = refl; five_roomy = refl; five_nodes = refl; five_pruned = refl; four_roomy = refl; four_nodes = refl; three_pruned = refl }
