-- What routing a net is lent, as the definitions see it: what is searched, and what is made of a net so far.
use Rattle.std.specs.Prelude.{ℕ, ◌+◌, ◌*◌, ◌<◌, ◌≤◌, length}
use Rattle.astar.specs.Reached.{Ready}
use Rattle.path_finding.specs.declared.Finder.{Finder}
use Rattle.path_finding.specs.Lent.{graph_in}
use Rattle.vertex.specs.Pages.{VERTICES}
use Rattle.wire.specs.declared.types.Wires.{Wires}
use Rattle.wire.specs.Ends.{ENDS}
use Rattle.wire.specs.Lent.{wires_of}
use Rattle.routing.specs.declared.types.Joins.{Joins}
use Rattle.net.specs.Nets.{Branched, branched, Net, net}

-- the graph can be searched unless it is empty, and the list has room for a net's ends
pub record Searchable (f : Finder) : Type 0 where
  pub ready : 0 < f.graph.now.count → Ready (graph_in f)
  pub list_room : ENDS ≤ length f.list.now

-- with the number of the wire that was refused, or 0
abbrev pub made_of : ℕ → Wires → Joins → Branched
made_of number w j = branched number (wires_of w) j.rows.now j.j

-- the same without the net's ends
abbrev pub left_of : ℕ → Wires → Joins → Net
left_of number w j = net number (wires_of w).page j.rows.now j.j

-- n vertices of the page, m ends of a net and j junctions of the page, where the net has its root wire: a wire has two vertices or more, so that there is
-- room for every junction
pub record Bounds (n m j : ℕ) : Type 0 where
  pub n_most : n ≤ VERTICES
  pub m_some : 0 < m
  pub m_most : m ≤ ENDS
  pub joined : 2 * j + 2 ≤ n
