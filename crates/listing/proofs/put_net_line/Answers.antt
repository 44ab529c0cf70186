-- Four pieces, one behind another.
use mathlib.Core.List.{[], ◌∷◌}
use native.Mathlib.Omega.{arith}
use Rattle.decimals.specs.Write.{digits}
use Rattle.listing.specs.Listing.{net_line}
use Rattle.listing.proofs.Pieces.{net-pieces, net-room, put_4}
use Rattle.listing.proofs.put_net_line.Goals as goal

pub returns : goal.returns
unfolding net_line
returns c =
    let r = c.args.net in
    rw (net-pieces (110 ∷ 101 ∷ 116 ∷ []) (digits r.id) (digits r.number) (digits r.vertices) (digits r.junctions))
    (put_4 _ _ _ _ _ _ _ _ _ _ _ _ _ _ c.put_bytes-word.ensures c.put_pair-pair.ensures c.put_pair-counts.ensures c.put_byte.ensures (omega (arith, c.requires, net-room (110 ∷ 101 ∷ 116 ∷ []) (digits r.id) (digits r.number) (digits r.vertices) (digits r.junctions))))
