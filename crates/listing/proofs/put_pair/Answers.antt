use native.Mathlib.Omega.{arith}
use lib.ListN.{length-append}
use Rattle.decimals.proofs.Written.{put_then}
use Rattle.listing.proofs.put_pair.Goals as goal

pub returns : goal.returns
returns c = put_then _ _ _ _ _ _ _ _ c.put_digits_field-next.ensures c.put_digits_field.ensures (omega (arith, simp length-append at c.requires))
