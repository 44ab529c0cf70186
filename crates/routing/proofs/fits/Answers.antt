use Rattle.std.proofs.Common.{refl}
use Rattle.routing.specs.Branches.{fits}
use Rattle.routing.proofs.fits.Goals as goal

pub returns : goal.returns
unfolding fits
returns c = refl
