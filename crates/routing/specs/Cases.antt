-- 01, 'Cases at the edges', of nets. Units are 256 steps; coordinates are counted from −2^31.
use Rattle.std.specs.Prelude.{◌≡◌, [], ◌∷◌, ℕ, ◌+◌, ◌*◌}
use Rattle.fixed.specs.Constants.{UNIT}
use Rattle.fixed.specs.Up.{BIAS}
use Rattle.routing.specs.Roots.{root_pair}

abbrev pub units : ℕ → ℕ
units u = BIAS + u * UNIT

pub record Cases : Type 0 where
  -- endpoints (0,0), (30,30), (10,0): root pair first and third, the pair 0 * 3 + 2
  pub root_pair_is : root_pair (units 0 ∷ units 30 ∷ units 10 ∷ []) (units 0 ∷ units 30 ∷ units 0 ∷ []) 3 ≡ 0 * 3 + 2
