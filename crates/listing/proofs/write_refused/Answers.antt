-- Three pieces, one behind another.
use mathlib.Core.List.{[], ◌∷◌}
use native.Mathlib.Omega.{arith}
use Rattle.decimals.specs.Write.{digits}
use Rattle.listing.specs.Listing.{refused_line}
use Rattle.listing.proofs.Pieces.{pair-room}
use Rattle.listing.proofs.Room.{refused-room, refused-put, first}
use Rattle.listing.proofs.write_refused.Goals as goal

pub put_pair-pair-requires : goal.put_pair-pair-requires
unfolding refused_line
put_pair-pair-requires c =
    omega (arith, c.requires, refused-room c.args.at c.args.inner (omega arith) (omega arith), pair-room (114 ∷ 101 ∷ 102 ∷ 117 ∷ 115 ∷ 101 ∷ 100 ∷ []) (digits c.args.at) (digits c.args.inner), c.put_bytes-word.ensures.next, c.put_bytes-word.auto.buf)

pub put_byte-requires : goal.put_byte-requires
unfolding refused_line
put_byte-requires c =
    omega (arith, c.requires, refused-room c.args.at c.args.inner (omega arith) (omega arith), pair-room (114 ∷ 101 ∷ 102 ∷ 117 ∷ 115 ∷ 101 ∷ 100 ∷ []) (digits c.args.at) (digits c.args.inner), c.put_bytes-word.ensures.next, c.put_bytes-word.auto.buf, c.put_pair-pair.ensures.next, c.put_pair-pair.auto.buf)

pub returns : goal.returns
returns c = let room = refused-room c.args.at c.args.inner (omega arith) (omega arith) in
    let put = refused-put c.args.at c.args.inner _ _ _ _ _ _ _ (omega (arith, c.requires, room)) c.put_bytes-word.ensures c.put_pair-pair.ensures c.put_byte.ensures in record { put = put; first = first _ _ _ _ put (omega (arith, c.put_bytes-word.auto.buf, c.put_pair-pair.auto.buf, c.put_byte.auto.buf)) (omega (arith, c.requires, room)) }
