-- The table of 01's marked cases: each is computed from the definitions, here or beside them.
use mathlib.Core.Path.{refl}
use Rattle.fixed.specs.Up.{up}
use Rattle.sightline.specs.Count.{any}
use Rattle.sightline.specs.Sight.{stops, box_stops, blocked}
use Rattle.sightline.specs.Boxes.{padded, edges}
use Rattle.tracks.proofs.Cases as Tracks
use Rattle.routing.proofs.Starred as Nets
use Rattle.corridors.proofs.Cases as Corridors
use Rattle.graph.proofs.Cases as Graphs
use Rattle.path_finding.proofs.Cases as Searches
use Rattle.line_exists.proofs.Cases as Lines
use Rattle.page_graph.proofs.Cases as Pages
use Rattle.page_search.proofs.Cases as PageSearches
use Rattle.net.proofs.Cases as InARow
use Rattle.starred.specs.Starred.{Starred}

pub table : Starred
unfolding up any stops box_stops blocked padded edges
table =
    record { reaching_90 = refl; one_step_less = refl; run_700 = refl; run_800 = refl; tracks = Tracks.cases; nets = Nets.cases; anchors = Corridors.two_boxes-are; graphs = Graphs.cases; searches = Searches.cases; lines = Lines.cases; pages = Pages.cases; page_searches = PageSearches.cases; in_a_row = InARow.cases }
