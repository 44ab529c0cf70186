-- 01, 'Separation': the separated places of a page's vertices. K has the letters of their kinds and J the page's junctions.
use Rattle.std.specs.Prelude.{Bool, true, false, List, ℕ, length}
use Rattle.tracks.specs.Corridors.{Pairs, gathered, Keyed}
use Rattle.tracks.specs.Tracks.{tracks_to, Rising}
use Rattle.fixup.specs.Moves.{Places, moves_to, LOWEST, HIGHEST}

-- the pairs of an axis take their tracks, and then move
unfoldable pub separate_axis : Bool → Pairs → List ℕ → List ℕ → Places → Places
separate_axis vertical P K J s = moves_to vertical K J P.keys (tracks_to P (length P.keys)) (length P.keys) s

-- all are gathered before any moves; horizontal corridors first
unfoldable pub separate_wires : List ℕ → List ℕ → Places → Places
separate_wires K J s =
    let h = gathered false s.x s.y K J in
    let v = gathered true s.y s.x K J in
    separate_axis true v K J (separate_axis false h K J s)

-- what separating an axis asks of its keys on a page of n vertices: they rise, and name pairs of the page
pub record Listed (n : ℕ) (keys : List ℕ) : Type 0 where
  pub keyed : Keyed LOWEST HIGHEST n keys
  pub rising : Rising keys
