-- The invariant: the first k pairs are moved.
use Rattle.std.proofs.Common.{◌≡◌}
use Rattle.fixed.specs.Up.{ups}
use Rattle.tracks.specs.Tracks.{tracks_to}
use Rattle.tracks.specs.Held.{pairs_in}
use Rattle.fixup.specs.Moves.{places, moves_to}
use Rattle.fixup.proofs.types.Page.separate_axis.Given as goal

abbrev pub invariant-loop-k : goal.invariant-loop-k
invariant-loop-k l =
    let P = pairs_in l.corridors in
    places (ups l.x) (ups l.y) ≡ moves_to l.vertical l.self.kinds.now l.self.junctions.now P.keys (tracks_to P l.corridors.count) l.k (places (ups l.initial.x) (ups l.initial.y))
