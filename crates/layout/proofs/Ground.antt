-- The graph of a page that is not crowded, with its nodes from lo to hi.
use mathlib.Core.Path.{◌≡◌}
use mathlib.Core.Bool.{Bool, false}
use Prim.Native.Nat.{ℕ, ◌+◌, ◌-◌, ◌<◌, ◌≤◌}
use Rattle.fixed.specs.Constants.{PADDING, LEAST, GREATEST}
use Rattle.astar.specs.Reached.{LIMIT}
use Rattle.anchors.specs.Records.{Records}
use Rattle.page_graph.specs.Page.{crowded, graph_of_page}
use Rattle.page_graph.specs.Lent.{Asked}
use Rattle.page_graph.specs.Claims.{Placed}
use Rattle.page_graph.proofs.Theorem.{page-sound}
use Rattle.page_graph.proofs.Range.{page-ranged, ranged-wider}
use Rattle.page_laws.specs.Connected.{Ground}
use Rattle.page_laws.proofs.Ranges.{ranged-ground}

pub page-ground : (lo hi : ℕ) → lo ≤ LEAST - PADDING → GREATEST + PADDING ≤ hi → hi < LIMIT → (r : Records) (pruned : Bool) → Asked r → Placed r → crowded r ≡ false
    → Ground lo hi (graph_of_page r pruned)
page-ground lo hi low high fits r pruned asked placed clear =
    let g = ranged-wider low high (page-ranged r pruned asked placed clear) in
    ranged-ground lo hi fits (graph_of_page r pruned) (page-sound r pruned clear).wf (record { low = g.x_least; high = g.x_greatest }) (record { low = g.y_least; high = g.y_greatest })
