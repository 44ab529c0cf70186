-- Four pieces, one behind another.
use mathlib.Core.List.{[], ◌∷◌}
use native.Mathlib.Omega.{arith}
use Rattle.decimals.specs.Write.{digits, signed}
use Rattle.listing.proofs.Pieces.{vertex-pieces, vertex-room, put_4}
use Rattle.listing.proofs.put_vertex.Goals as goal

pub returns : goal.returns
returns c =
    let r = c.args in
    let room = vertex-room (118 ∷ []) (digits r.k) (signed r.x) (signed r.y) r.letter in
    rw (vertex-pieces (118 ∷ []) (digits r.k) (signed r.x) (signed r.y) r.letter)
    (put_4 _ _ _ _ _ _ _ _ _ _ _ _ _ _ c.put_byte-word.ensures c.put_digits_field-index.ensures c.put_place-place.ensures c.put_letter.ensures (omega (arith, c.requires)))
