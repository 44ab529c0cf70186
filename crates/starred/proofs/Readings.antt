-- Each row by computing.
use mathlib.Core.Path.{refl}
use Rattle.fixed.specs.Track as FixedTrack
use Rattle.fixed.specs.Up as FixedUp
use Rattle.sightline.specs.Boxes as SightlineBoxes
use Rattle.sightline.specs.Count as SightlineCount
use Rattle.sightline.specs.Sight as SightlineSight
use Rattle.axis.specs.Axis as AxisAxis
use Rattle.zeros.specs.Zeros as ZerosZeros
use Rattle.corridors.specs.Grid as CorridorsGrid
use Rattle.corridors.specs.Merge as CorridorsMerge
use Rattle.nodes.specs.Graph as NodesGraph
use Rattle.scan.specs.Scan as ScanScan
use Rattle.scan.specs.Walk as ScanWalk
use Rattle.prune.specs.Prune as PrunePrune
use Rattle.anchors.specs.Explicit as AnchorsExplicit
use Rattle.graph.specs.Build as GraphBuild
use Rattle.page_graph.specs.Page as PageGraphPage
use Rattle.queue.specs.Queue as QueueQueue
use Rattle.astar.specs.Search as AstarSearch
use Rattle.path_finding.specs.Line as PathFindingLine
use Rattle.path_finding.specs.Places as PathFindingPlaces
use Rattle.tracks.specs.Corridors as TracksCorridors
use Rattle.tracks.specs.Extent as TracksExtent
use Rattle.tracks.specs.Tracks as TracksTracks
use Rattle.fixup.specs.Moves as FixupMoves
use Rattle.fixup.specs.Separation as FixupSeparation
use Rattle.wire.specs.Ends as WireEnds
use Rattle.wire.specs.Lines as WireLines
use Rattle.wire.specs.Wires as WireWires
use Rattle.routing.specs.Branches as RoutingBranches
use Rattle.routing.specs.Roots as RoutingRoots
use Rattle.net.specs.Nets as NetNets
use Rattle.net.specs.Points as NetPoints
use Rattle.layout.specs.Answer as LayoutAnswer
use Rattle.layout.specs.Layout as LayoutLayout
use Rattle.layout.specs.Separated as LayoutSeparated
use Rattle.corridors.specs.Cases as CorridorsCases
use Rattle.book.specs.Book.{room_number}
use Rattle.starred.specs.Readings.{Readings}

pub readings : Readings
unfolding FixedTrack.track FixedTrack.moved FixedUp.up FixedUp.down FixedUp.ups SightlineBoxes.padded SightlineBoxes.edges SightlineCount.any SightlineCount.run SightlineSight.stops SightlineSight.box_stops SightlineSight.blocked SightlineSight.clear_after SightlineSight.clear_before SightlineSight.pos_cutoff SightlineSight.neg_cutoff SightlineSight.cutoff SightlineSight.passes AxisAxis.rank AxisAxis.index AxisAxis.holds AxisAxis.insert AxisAxis.inserts ZerosZeros.closed CorridorsGrid.covers CorridorsGrid.covered CorridorsGrid.filled CorridorsGrid.last CorridorsGrid.ends_at CorridorsGrid.add_cell CorridorsGrid.with_cell CorridorsGrid.runs CorridorsGrid.row_runs CorridorsGrid.all_runs CorridorsMerge.has CorridorsMerge.swap_remove CorridorsMerge.take_out CorridorsMerge.yield CorridorsMerge.corridor CorridorsMerge.fold CorridorsMerge.row_corridors CorridorsMerge.corridors CorridorsMerge.crossed CorridorsMerge.implicit CorridorsMerge.directions NodesGraph.stands NodesGraph.seek NodesGraph.find NodesGraph.mark_as NodesGraph.remark NodesGraph.push NodesGraph.place NodesGraph.linked NodesGraph.link ScanScan.fold ScanScan.has ScanScan.toward ScanScan.extent ScanScan.scans ScanScan.scan_anchor ScanScan.mark ScanScan.place_anchor ScanScan.scan_at ScanScan.build_nodes ScanScan.build ScanWalk.along ScanWalk.room ScanWalk.find_on ScanWalk.place_on ScanWalk.next ScanWalk.step ScanWalk.walk ScanWalk.reach ScanWalk.scan PrunePrune.only PrunePrune.straight PrunePrune.moved_links PrunePrune.moved PrunePrune.back PrunePrune.backs PrunePrune.relink PrunePrune.shrink PrunePrune.drop_node PrunePrune.join PrunePrune.prune_by PrunePrune.prune_at PrunePrune.prune_from PrunePrune.prune AnchorsExplicit.push AnchorsExplicit.takes AnchorsExplicit.ways AnchorsExplicit.ignored AnchorsExplicit.with_row AnchorsExplicit.with_key AnchorsExplicit.with_keys AnchorsExplicit.port_anchors AnchorsExplicit.explicit GraphBuild.whole GraphBuild.made PageGraphPage.padded_boxes PageGraphPage.implicit PageGraphPage.then_implicit PageGraphPage.all_anchors PageGraphPage.overfull PageGraphPage.boxes_of_page PageGraphPage.anchors_of_page PageGraphPage.crowded PageGraphPage.graph_of_page QueueQueue.least AstarSearch.distance AstarSearch.nearest AstarSearch.holds AstarSearch.toward AstarSearch.arrives AstarSearch.run_length AstarSearch.MOVES AstarSearch.straight_run AstarSearch.penalty_at AstarSearch.cost AstarSearch.replace AstarSearch.relax AstarSearch.relax_to AstarSearch.expand AstarSearch.run AstarSearch.TURNS AstarSearch.begin AstarSearch.chain AstarSearch.traced_line PathFindingLine.has_link PathFindingLine.admit PathFindingLine.goals PathFindingLine.line PathFindingLine.table PathFindingLine.place_at PathFindingLine.kind_at PathFindingLine.bit PathFindingLine.direction_at PathFindingLine.kept_at PathFindingLine.pruned PathFindingPlaces.node_at PathFindingPlaces.known PathFindingPlaces.line_between PathFindingPlaces.number TracksCorridors.rank_at TracksCorridors.key_of TracksCorridors.insert_key TracksCorridors.lies TracksCorridors.gather_at TracksCorridors.gather_to TracksCorridors.gathered TracksExtent.widen TracksExtent.leads TracksExtent.reach TracksExtent.extent_of TracksTracks.clash TracksTracks.marks TracksTracks.first_clear TracksTracks.track_at TracksTracks.tracks_to FixupMoves.line_move FixupMoves.corner_move FixupMoves.row_move FixupMoves.move FixupMoves.row_step FixupMoves.move_junctions FixupMoves.move_pair FixupMoves.move_at FixupMoves.moves_to FixupSeparation.separate_axis FixupSeparation.separate_wires WireEnds.put_end WireEnds.stands WireEnds.first_from WireEnds.junction_end WireEnds.end_distance WireEnds.nearest_end WireLines.straight WireLines.kept WireWires.push_vertex WireWires.push_end WireWires.push_dummies WireWires.push_start WireWires.push_start_ends WireWires.corner_kind WireWires.push_corner WireWires.push_node WireWires.push_nodes WireWires.push_vertices WireWires.bent WireWires.fallback_vertices WireWires.push_bend WireWires.push_fallback_wire WireWires.push_fallback RoutingBranches.fits RoutingBranches.line_wire RoutingBranches.fallback_wire RoutingBranches.route_wire RoutingBranches.joined_end RoutingBranches.route_branch RoutingBranches.put_junction RoutingBranches.join_branch RoutingRoots.slant RoutingRoots.slant_of RoutingRoots.root_to RoutingRoots.root_pair NetNets.found_line NetNets.along_at NetNets.along NetNets.root_wire NetNets.end_word NetNets.branch_line NetNets.branch_from NetNets.branch_at NetNets.branches_to NetNets.refused NetNets.no_ends NetNets.route_net NetNets.kept NetNets.connect_net NetPoints.owns NetPoints.column LayoutAnswer.layout_number LayoutAnswer.routed LayoutAnswer.layout_page LayoutLayout.put_net LayoutLayout.with_net LayoutLayout.net_of LayoutLayout.nets_to LayoutLayout.blank LayoutLayout.parted LayoutLayout.drawn LayoutSeparated.apart LayoutSeparated.separated CorridorsCases.holes CorridorsCases.downs room_number
readings =
    record { holes_filled = refl; met_is_linked = refl; explicit_first = refl; first_greatest = refl; third_unknown = refl; y_of_end = refl; first_end = refl; dummy_restricted = refl; start_locked = refl; next_is_tried = refl; all_are_separated = refl; last_goes = refl }
