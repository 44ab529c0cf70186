-- The marked case of nets and those beside it, by computing.
use mathlib.Core.Path.{refl}
use Rattle.sightline.specs.Count.{any, run}
use Rattle.sightline.specs.Sight.{stops, box_stops, blocked, clear_after, clear_before}
use Rattle.axis.specs.Axis.{rank, index, holds as on_axis, insert, inserts}
use Rattle.nodes.specs.Graph.{stands, seek, find, mark_as, remark, push, place, linked, link}
use Rattle.scan.specs.Walk.{along as scan-along, find_on, place_on, next, step, walk, reach, scan}
use Rattle.scan.specs.Scan.{fold, has, toward as scan-toward, scans, scan_anchor, mark, place_anchor, scan_at, build_nodes, build}
use Rattle.prune.specs.Prune.{only, straight as prune-straight, moved_links, moved, back, backs, relink, shrink, drop_node, join, prune_by, prune_at, prune_from, prune}
use Rattle.graph.specs.Build.{whole, made}
use Rattle.zeros.specs.Zeros.{closed}
use Rattle.queue.specs.Queue.{least}
use Rattle.astar.specs.Search.{TURNS, MOVES, distance, nearest, holds, toward, arrives, run_length, straight_run, penalty_at, cost, replace, relax, relax_to, expand, run as turns, begin, chain, traced_line}
use Rattle.path_finding.specs.Line.{has_link, admit, goals, line, table, place_at, kind_at, bit, direction_at}
use Rattle.path_finding.specs.Places.{node_at, known, line_between}
use Rattle.wire.specs.Ends.{put_end, stands as end-stands, first_from, junction_end, end_distance, nearest_end}
use Rattle.wire.specs.Lines.{straight, kept}
use Rattle.wire.specs.Wires.{push_vertex, push_end, push_dummies, push_start, push_start_ends, corner_kind, push_corner, push_node, push_nodes, push_vertices, bent, fallback_vertices, push_bend, push_fallback_wire, push_fallback}
use Rattle.routing.specs.Roots.{slant, slant_of, root_to, root_pair}
use Rattle.routing.specs.Branches.{fits, line_wire, fallback_wire, route_wire, joined_end, route_branch, put_junction, join_branch}
use Rattle.net.specs.Nets.{found_line, along_at, along, root_wire, end_word, branch_line, branch_from, branch_at, branches_to, refused, no_ends, route_net, kept as net-kept, connect_net}
use Rattle.net.specs.Cases.{Cases}

pub cases : Cases
unfolding any run stops box_stops blocked clear_after clear_before rank index on_axis insert inserts stands seek find mark_as remark push place linked link scan-along find_on place_on next step walk reach scan fold has scan-toward scans scan_anchor mark place_anchor scan_at build_nodes build only prune-straight moved_links moved back backs relink shrink drop_node join prune_by prune_at prune_from prune whole made closed least TURNS MOVES distance nearest holds toward arrives run_length straight_run penalty_at cost replace relax relax_to expand turns begin chain traced_line has_link admit goals line table place_at kind_at bit direction_at node_at known line_between put_end end-stands first_from junction_end end_distance nearest_end straight kept push_vertex push_end push_dummies push_start push_start_ends corner_kind push_corner push_node push_nodes push_vertices bent fallback_vertices push_bend push_fallback_wire push_fallback slant slant_of root_to root_pair fits line_wire fallback_wire route_wire joined_end route_branch put_junction join_branch found_line along_at along root_wire end_word branch_line branch_from branch_at branches_to refused no_ends route_net net-kept connect_net
cases = record { fourteen = refl; fourteen_unpruned = refl; first_two = refl; one = refl; third_unknown = refl }
