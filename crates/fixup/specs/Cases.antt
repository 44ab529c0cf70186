-- A page of one net, moved on both axes: a root wire, a branch that joins its corner, and one that joins a segment. It shows that each kind of vertex that
-- is not promised to stay can move: here a dummy (1), a corner (2), an end on a corner (7) and an end on a line segment (12) do. The proof is in proofs/Cases.
use Rattle.std.specs.Prelude.{◌≡◌, List, [], ◌∷◌, ℕ}
use Rattle.fixup.specs.Moves.{Places, places}
use Rattle.fixup.specs.Separation.{separate_wires}

-- R D N E, B N N C, B D N N L
abbrev pub kinds : List ℕ
kinds = 82 ∷ 68 ∷ 78 ∷ 69 ∷ 66 ∷ 78 ∷ 78 ∷ 67 ∷ 66 ∷ 68 ∷ 78 ∷ 78 ∷ 76 ∷ []

-- 7 joins the corner 2, 12 the segment from 5
abbrev pub junctions : List ℕ
junctions = 2 ∷ 7 ∷ 67 ∷ 5 ∷ 12 ∷ 76 ∷ []

abbrev pub before : Places
before = places (2147484928 ∷ 2147483648 ∷ 2147483648 ∷ 2147484928 ∷ 2147483648 ∷ 2147483648 ∷ 2147483648 ∷ 2147483648 ∷ 2147484928 ∷ 2147484928 ∷ 2147488768 ∷ 2147484928 ∷ 2147483648 ∷ []) (2147488768 ∷ 2147488768 ∷ 2147485568 ∷ 2147485568 ∷ 2147484928 ∷ 2147485568 ∷ 2147488768 ∷ 2147485568 ∷ 2147487488 ∷ 2147485568 ∷ 2147485568 ∷ 2147485568 ∷ 2147485568 ∷ [])

abbrev pub after : Places
after = places (2147484928 ∷ 2147484928 ∷ 2147484928 ∷ 2147484928 ∷ 2147483648 ∷ 2147482368 ∷ 2147482368 ∷ 2147484928 ∷ 2147484928 ∷ 2147484928 ∷ 2147488768 ∷ 2147484928 ∷ 2147482368 ∷ []) (2147488768 ∷ 2147488768 ∷ 2147485568 ∷ 2147485568 ∷ 2147484928 ∷ 2147485568 ∷ 2147488768 ∷ 2147485568 ∷ 2147487488 ∷ 2147486848 ∷ 2147484288 ∷ 2147488128 ∷ 2147488128 ∷ [])

pub record Cases : Type 0 where
  pub page : separate_wires kinds junctions before ≡ after
