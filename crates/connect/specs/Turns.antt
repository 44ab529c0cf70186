-- The turns of a net: its root wire is the first, then its endpoints follow in order. `turns_to` with one turn more than the net has endpoints is `route_net`
-- (crate net), which the contract of `route_net` cites.
use Rattle.std.specs.Prelude.{List, ℕ, zero, suc}
use Rattle.nodes.specs.Graph.{Graph}
use Rattle.net.specs.Nets.{Branched, branched, root_wire, branch_at, Net, net}

-- the turn k
unfoldable pub turn_at : Graph → List ℕ → List ℕ → ℕ → ℕ → ℕ → Branched → Branched
turn_at G px py a b zero S =
    let T = root_wire G px py a b S.wires in
    branched T.number T.wires S.joins S.j
turn_at G px py a b (suc k) S = branch_at G px py a b k S

-- the first k turns
unfoldable pub turns_to : Graph → List ℕ → List ℕ → ℕ → ℕ → ℕ → Branched → Branched
turns_to G px py a b zero S = S
turns_to G px py a b (suc k) S = turn_at G px py a b k (turns_to G px py a b k S)

-- what is handed back of what was made; the net's ends are not
abbrev pub outcome : Branched → Net
outcome S = net S.number S.wires.page S.joins S.j
