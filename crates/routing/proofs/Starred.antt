-- The cases compute.
use mathlib.Core.Path.{refl}
use Rattle.routing.specs.Roots.{slant, slant_of, root_to, root_pair}
use Rattle.routing.specs.Cases.{Cases}

pub cases : Cases
unfolding slant slant_of root_to root_pair
cases = record { root_pair_is = refl }
