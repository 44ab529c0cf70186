-- 01, 'Nets': 'a junction takes the first end at the place', and a branch's fallback runs 'to the first end at the least Manhattan distance'.
use Rattle.std.specs.Prelude.{◌≡◌, true, false, List, ℕ, ◌<◌, ◌≤◌}
use Rattle.wire.specs.Ends.{stands, end_distance}

-- e is the first end at the place
pub record FirstAt (E : List ℕ) (px py e : ℕ) : Type 0 where
  pub here : stands E px py e ≡ true
  pub none_before : (i : ℕ) → i < e → stands E px py i ≡ false

-- e is the first of m ends at the least Manhattan distance from the place
pub record Nearest (E : List ℕ) (px py m e : ℕ) : Type 0 where
  pub one : e < m
  pub least : (i : ℕ) → i < m → end_distance E px py e ≤ end_distance E px py i
  pub first : (i : ℕ) → i < e → end_distance E px py e < end_distance E px py i
