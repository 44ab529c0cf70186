-- 01, 'Cases at the edges': *'one box with ports (0,0) PosX, (20,0) NegX, (10,40) no direction, the box at the point (1000,1000)': first to third port is 11.
-- Beside it: first to second port is found. Both are cases of `LineExists`: what it asks is so, and by it the places are joined, or not.
use Rattle.std.specs.Prelude.{ℕ, ◌≡◌, Bool, true, false, [], ◌∷◌}
use Rattle.graph.specs.Build.{whole, made}
use Rattle.graph.specs.Cases.{at, one_box, ports}
use Rattle.path_finding.specs.Places.{number}
use Rattle.line_exists.specs.Exists.{Asked, Joined}

-- the number of a search from the first port to the place (x, y), in units
abbrev pub from_first : Bool → ℕ → ℕ → ℕ
from_first pruned x y = number (made one_box ports pruned) (at 0) (at 0) (at x ∷ []) (at y ∷ [])

pub record Cases : Type 0 where
  pub third : from_first true 10 40 ≡ 11
  pub third_unpruned : from_first false 10 40 ≡ 11
  pub second : from_first true 20 0 ≡ 0

-- of a search from the first port to the place (x, y): what `LineExists` asks, and whether links join the two in the unpruned graph
abbrev pub AskedTo : ℕ → ℕ → Type 0
AskedTo x y = Asked one_box ports (at 0) (at 0) (at x ∷ []) (at y ∷ [])

abbrev pub JoinedTo : ℕ → ℕ → Type 0
JoinedTo x y = Joined (whole one_box ports) (at 0) (at 0) (at x ∷ []) (at y ∷ [])

pub record Witness : Type 0 where
  pub asked_second : AskedTo 20 0
  pub asked_third : AskedTo 10 40
  pub joined_second : JoinedTo 20 0
  pub apart_third : JoinedTo 10 40 → ⊥
