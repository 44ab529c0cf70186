use mathlib.Core.Path.{◌≡◌, refl}
use mathlib.Core.List.{[], ◌∷◌}
use Rattle.decimals.specs.Write.{digits, digits_in, tabbed}
use Rattle.listing.specs.Listing.{line, crowded_line}
use Rattle.listing.proofs.Room.{first}
use Rattle.listing.proofs.write_crowded.Goals as goal

bytes : crowded_line ≡ 112 ∷ 97 ∷ 103 ∷ 101 ∷ 9 ∷ 56 ∷ 10 ∷ []
unfolding crowded_line line tabbed digits digits_in
bytes = refl

pub put_bytes-requires : goal.put_bytes-requires
put_bytes-requires c = rw bytes at c.requires

pub returns : goal.returns
returns c = record { put = rw bytes c.put_bytes.ensures; first = first _ _ _ _ c.put_bytes.ensures c.put_bytes.auto.buf (rw bytes at c.requires) }
