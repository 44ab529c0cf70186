-- Three pieces, one behind another.
use mathlib.Core.List.{[], ◌∷◌}
use native.Mathlib.Omega.{arith}
use Rattle.decimals.specs.Write.{digits}
use Rattle.listing.specs.Listing.{join_line}
use Rattle.listing.proofs.Pieces.{join-pieces, join-room, put_3}
use Rattle.listing.proofs.put_join.Goals as goal

pub returns : goal.returns
unfolding join_line
returns c =
    let r = c.args in
    rw (join-pieces (106 ∷ []) (digits r.v) (digits r.e) r.letter)
    (put_3 _ _ _ _ _ _ _ _ _ _ _ c.put_byte-word.ensures c.put_pair-pair.ensures c.put_letter.ensures (omega (arith, c.requires, join-room (106 ∷ []) (digits r.v) (digits r.e) r.letter)))
