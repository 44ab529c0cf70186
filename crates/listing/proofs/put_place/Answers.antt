use native.Mathlib.Omega.{arith}
use lib.ListN.{length-append}
use Rattle.decimals.proofs.Written.{put_then}
use Rattle.listing.proofs.put_place.Goals as goal

pub returns : goal.returns
returns c = put_then _ _ _ _ _ _ _ _ c.put_step_field-next.ensures c.put_step_field.ensures (omega (arith, simp length-append at c.requires))
