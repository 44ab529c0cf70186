-- The marked case of the search, by computing.
use mathlib.Core.Path.{refl}
use Rattle.sightline.specs.Count.{any, run}
use Rattle.sightline.specs.Sight.{stops, box_stops, blocked, clear_after, clear_before}
use Rattle.axis.specs.Axis.{rank, index, holds as on_axis, insert, inserts}
use Rattle.nodes.specs.Graph.{stands, seek, find, mark_as, remark, push, place, linked, link}
use Rattle.scan.specs.Walk.{along, find_on, place_on, next, step, walk, reach, scan}
use Rattle.scan.specs.Scan.{fold, has, toward as scan-toward, scans, scan_anchor, mark, place_anchor, scan_at, build_nodes, build}
use Rattle.prune.specs.Prune.{only, straight, moved_links, moved, back, backs, relink, shrink, drop_node, join, prune_by, prune_at, prune_from, prune}
use Rattle.graph.specs.Build.{whole, made}
use Rattle.queue.specs.Queue.{least}
use Rattle.astar.specs.Search.{TURNS, MOVES, distance, nearest, holds, toward, arrives, run_length, straight_run, penalty_at, cost, replace, relax, relax_to, expand, run as turns, begin, chain, traced_line}
use Rattle.path_finding.specs.Line.{has_link, admit, goals, line, table}
use Rattle.path_finding.specs.Places.{node_at, known, line_between, number}
use Rattle.line_exists.specs.Cases.{Cases}

pub cases : Cases
unfolding any run stops box_stops blocked clear_after clear_before rank index on_axis insert inserts stands seek find mark_as remark push place linked link along find_on place_on next step walk reach scan fold has scan-toward scans scan_anchor mark place_anchor scan_at build_nodes build only straight moved_links moved back backs relink shrink drop_node join prune_by prune_at prune_from prune whole made least TURNS MOVES distance nearest holds toward arrives run_length straight_run penalty_at cost replace relax relax_to expand turns begin chain traced_line has_link admit goals line table node_at known line_between number
cases = record { third = refl; third_unpruned = refl; second = refl }
