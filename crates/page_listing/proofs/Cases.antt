-- 01's sample, and the empty text, by computing.
use mathlib.Core.Path.{refl}
use Rattle.fixed.specs.Track as FixedTrack
use Rattle.fixed.specs.Up as FixedUp
use Rattle.sightline.specs.Boxes as SightlineBoxes
use Rattle.sightline.specs.Count as SightlineCount
use Rattle.sightline.specs.Sight as SightlineSight
use Rattle.axis.specs.Axis as AxisAxis
use Rattle.zeros.specs.Zeros as ZerosZeros
use Rattle.corridors.specs.Grid as CorridorsGrid
use Rattle.corridors.specs.Lent as CorridorsLent
use Rattle.corridors.specs.Merge as CorridorsMerge
use Rattle.nodes.specs.Graph as NodesGraph
use Rattle.scan.specs.Scan as ScanScan
use Rattle.scan.specs.Walk as ScanWalk
use Rattle.prune.specs.Prune as PrunePrune
use Rattle.anchors.specs.Explicit as AnchorsExplicit
use Rattle.graph.specs.Build as GraphBuild
use Rattle.page_graph.specs.Page as PageGraphPage
use Rattle.queue.specs.Queue as QueueQueue
use Rattle.astar.specs.Search as AstarSearch
use Rattle.path_finding.specs.Line as PathFindingLine
use Rattle.path_finding.specs.Places as PathFindingPlaces
use Rattle.tracks.specs.Corridors as TracksCorridors
use Rattle.tracks.specs.Extent as TracksExtent
use Rattle.tracks.specs.Tracks as TracksTracks
use Rattle.fixup.specs.Moves as FixupMoves
use Rattle.fixup.specs.Separation as FixupSeparation
use Rattle.wire.specs.Ends as WireEnds
use Rattle.wire.specs.Lines as WireLines
use Rattle.wire.specs.Wires as WireWires
use Rattle.routing.specs.Branches as RoutingBranches
use Rattle.routing.specs.Roots as RoutingRoots
use Rattle.net.specs.Nets as NetNets
use Rattle.net.specs.Points as NetPoints
use Rattle.connect.specs.Turns as ConnectTurns
use Rattle.page_laws.specs.Nets as PageLawsNets
use Rattle.layout.specs.Answer as LayoutAnswer
use Rattle.layout.specs.Layout as LayoutLayout
use Rattle.layout.specs.Separated as LayoutSeparated
use Rattle.layout_laws.specs.Counted as LayoutLawsCounted
use Rattle.page_layout.specs.Drawing as PageLayoutDrawing
use Rattle.rows.specs.Rows as RowsRows
use Rattle.book.specs.Book as DeskBook
use Rattle.select.specs.Page as SelectPage
use Rattle.desk_layout.specs.Layout as DeskLayoutLayout
use Rattle.decimals.specs.Bytes as DecimalsBytes
use Rattle.decimals.specs.Decimal as DecimalsDecimal
use Rattle.decimals.specs.Write as DecimalsWrite
use Rattle.page_line.specs.Fields as PageLineFields
use Rattle.page_line.specs.Lines as PageLineLines
use Rattle.page_line.specs.Records as PageLineRecords
use Rattle.page_line.specs.Write as PageLineWrite
use Rattle.page_text.specs.Reading as PageTextReading
use Rattle.page_text.specs.Words as PageTextWords
use Rattle.listing.specs.Listing as ListingListing
use Rattle.listing.specs.Room as ListingRoom
use Rattle.page_listing.specs.Printed as PageListingPrinted
use Rattle.page_listing.specs.Cases.{Cases}

pub cases : Cases
unfolding FixedTrack.track FixedTrack.moved FixedUp.up FixedUp.down FixedUp.ups SightlineBoxes.padded SightlineBoxes.edges SightlineCount.any SightlineCount.run SightlineSight.stops SightlineSight.box_stops SightlineSight.blocked SightlineSight.clear_after SightlineSight.clear_before SightlineSight.pos_cutoff SightlineSight.neg_cutoff SightlineSight.cutoff SightlineSight.passes AxisAxis.rank AxisAxis.index AxisAxis.holds AxisAxis.insert AxisAxis.inserts ZerosZeros.closed CorridorsGrid.covers CorridorsGrid.covered CorridorsGrid.filled CorridorsGrid.last CorridorsGrid.ends_at CorridorsGrid.add_cell CorridorsGrid.with_cell CorridorsGrid.runs CorridorsGrid.row_runs CorridorsGrid.all_runs CorridorsLent.removed CorridorsLent.listed CorridorsMerge.has CorridorsMerge.swap_remove CorridorsMerge.take_out CorridorsMerge.yield CorridorsMerge.corridor CorridorsMerge.fold CorridorsMerge.row_corridors CorridorsMerge.corridors CorridorsMerge.crossed CorridorsMerge.implicit CorridorsMerge.directions NodesGraph.stands NodesGraph.seek NodesGraph.find NodesGraph.mark_as NodesGraph.remark NodesGraph.push NodesGraph.place NodesGraph.linked NodesGraph.link ScanScan.fold ScanScan.has ScanScan.toward ScanScan.extent ScanScan.scans ScanScan.scan_anchor ScanScan.mark ScanScan.place_anchor ScanScan.scan_at ScanScan.build_nodes ScanScan.build ScanWalk.along ScanWalk.room ScanWalk.find_on ScanWalk.place_on ScanWalk.next ScanWalk.step ScanWalk.walk ScanWalk.reach ScanWalk.scan PrunePrune.only PrunePrune.straight PrunePrune.moved_links PrunePrune.moved PrunePrune.back PrunePrune.backs PrunePrune.relink PrunePrune.shrink PrunePrune.drop_node PrunePrune.join PrunePrune.prune_by PrunePrune.prune_at PrunePrune.prune_from PrunePrune.prune AnchorsExplicit.push AnchorsExplicit.takes AnchorsExplicit.ways AnchorsExplicit.ignored AnchorsExplicit.with_row AnchorsExplicit.with_key AnchorsExplicit.with_keys AnchorsExplicit.port_anchors AnchorsExplicit.explicit GraphBuild.whole GraphBuild.made PageGraphPage.padded_boxes PageGraphPage.implicit PageGraphPage.then_implicit PageGraphPage.all_anchors PageGraphPage.overfull PageGraphPage.boxes_of_page PageGraphPage.anchors_of_page PageGraphPage.crowded PageGraphPage.graph_of_page QueueQueue.least AstarSearch.distance AstarSearch.nearest AstarSearch.holds AstarSearch.toward AstarSearch.arrives AstarSearch.run_length AstarSearch.MOVES AstarSearch.straight_run AstarSearch.penalty_at AstarSearch.cost AstarSearch.replace AstarSearch.relax AstarSearch.relax_to AstarSearch.expand AstarSearch.run AstarSearch.TURNS AstarSearch.begin AstarSearch.chain AstarSearch.traced_line PathFindingLine.has_link PathFindingLine.admit PathFindingLine.goals PathFindingLine.line PathFindingLine.table PathFindingLine.place_at PathFindingLine.kind_at PathFindingLine.bit PathFindingLine.direction_at PathFindingLine.kept_at PathFindingLine.pruned PathFindingPlaces.node_at PathFindingPlaces.known PathFindingPlaces.line_between PathFindingPlaces.number TracksCorridors.rank_at TracksCorridors.key_of TracksCorridors.insert_key TracksCorridors.lies TracksCorridors.gather_at TracksCorridors.gather_to TracksCorridors.gathered TracksExtent.widen TracksExtent.leads TracksExtent.reach TracksExtent.extent_of TracksTracks.clash TracksTracks.marks TracksTracks.first_clear TracksTracks.track_at TracksTracks.tracks_to FixupMoves.line_move FixupMoves.corner_move FixupMoves.row_move FixupMoves.move FixupMoves.row_step FixupMoves.move_junctions FixupMoves.move_pair FixupMoves.move_at FixupMoves.moves_to FixupSeparation.separate_axis FixupSeparation.separate_wires WireEnds.put_end WireEnds.stands WireEnds.first_from WireEnds.junction_end WireEnds.end_distance WireEnds.nearest_end WireLines.straight WireLines.kept WireWires.push_vertex WireWires.push_end WireWires.push_dummies WireWires.push_start WireWires.push_start_ends WireWires.corner_kind WireWires.push_corner WireWires.push_node WireWires.push_nodes WireWires.push_vertices WireWires.bent WireWires.fallback_vertices WireWires.push_bend WireWires.push_fallback_wire WireWires.push_fallback RoutingBranches.fits RoutingBranches.line_wire RoutingBranches.fallback_wire RoutingBranches.route_wire RoutingBranches.joined_end RoutingBranches.route_branch RoutingBranches.put_junction RoutingBranches.join_branch RoutingRoots.slant RoutingRoots.slant_of RoutingRoots.root_to RoutingRoots.root_pair NetNets.found_line NetNets.along_at NetNets.along NetNets.root_wire NetNets.end_word NetNets.branch_line NetNets.branch_from NetNets.branch_at NetNets.branches_to NetNets.refused NetNets.no_ends NetNets.route_net NetNets.kept NetNets.connect_net NetPoints.owns NetPoints.column ConnectTurns.turn_at ConnectTurns.turns_to PageLawsNets.nets_to LayoutAnswer.layout_number LayoutAnswer.routed LayoutAnswer.layout_page LayoutLayout.put_net LayoutLayout.with_net LayoutLayout.net_of LayoutLayout.nets_to LayoutLayout.blank LayoutLayout.parted LayoutLayout.drawn LayoutSeparated.apart LayoutSeparated.separated LayoutLawsCounted.vertex_count LayoutLawsCounted.join_count PageLayoutDrawing.lists_of PageLayoutDrawing.bare PageLayoutDrawing.laid RowsRows.pasted RowsRows.part RowsRows.with_part RowsRows.rows RowsRows.records RowsRows.key RowsRows.keys RowsRows.put_last RowsRows.taken_out RowsRows.place RowsRows.is_in DeskBook.ok_id_in DeskBook.ok_place DeskBook.ok_record DeskBook.fields_number_in DeskBook.ranged DeskBook.room_number DeskBook.new_number DeskBook.known_number DeskBook.answer DeskBook.take_number_in DeskBook.with_record SelectPage.flat DeskLayoutLayout.ok_choice DeskLayoutLayout.layout_number DeskLayoutLayout.zeros DeskLayoutLayout.left DeskLayoutLayout.is_lent DeskLayoutLayout.tested DeskLayoutLayout.says DeskLayoutLayout.shows DecimalsBytes.onto DecimalsBytes.split DecimalsBytes.place DecimalsBytes.same DecimalsDecimal.is_digit DecimalsDecimal.digits_only DecimalsDecimal.is_empty DecimalsDecimal.natural DecimalsDecimal.reads DecimalsDecimal.cap DecimalsDecimal.amount DecimalsDecimal.plain DecimalsDecimal.value DecimalsDecimal.amount_of DecimalsDecimal.number_of DecimalsDecimal.summed DecimalsWrite.digits_in DecimalsWrite.digits DecimalsWrite.signed DecimalsWrite.tabbed DecimalsWrite.written PageLineFields.all_plain PageLineFields.values PageLineFields.count_of PageLineFields.id_word PageLineFields.step_word PageLineFields.small_word PageLineFields.word PageLineFields.row_of PageLineLines.ended_in PageLineLines.lines_in PageLineLines.text_lines_in PageLineLines.line_at PageLineRecords.kind_of PageLineRecords.shape PageLineRecords.record_of PageLineRecords.line_of PageLineRecords.kind_in PageLineRecords.row_in PageLineWrite.text PageLineWrite.texts PageLineWrite.line_text PageTextReading.step_of PageTextReading.takes_in PageTextReading.adds PageTextReading.onward PageTextReading.feed_in PageTextReading.read_in PageTextReading.lines_text PageTextReading.text_of_page PageTextWords.leaves PageTextWords.onward_words PageTextWords.feed_words PageTextWords.text_words PageTextWords.stop_of PageTextWords.told PageTextWords.is_lent PageTextWords.read_number PageTextWords.read_words PageTextWords.read_refusal ListingListing.up_to ListingListing.line ListingListing.vertex_line ListingListing.join_line ListingListing.join_at ListingListing.join_from ListingListing.joins_of ListingListing.net_line ListingListing.net_part ListingListing.net_at ListingListing.listing ListingListing.refused_line ListingListing.crowded_line ListingRoom.room_at ListingRoom.room PageListingPrinted.sheet PageListingPrinted.page_on PageListingPrinted.laid_listing PageListingPrinted.page_printed PageListingPrinted.read_printed PageListingPrinted.printed
cases = record { sample_is = refl; empty_is = refl }
