-- A path of a graph, as a line.
--     place-at-node    the place of a node of the path
--     straight-at      whether it goes straight on there
use mathlib.Core.Path.{◌≡◌, refl, sym, ◌∙◌}
use mathlib.Core.Bool.{Bool, true, false, cond, ◌&&◌}
use mathlib.Core.List.{List}
use Prim.Native.Nat.{ℕ, ◌+◌, ◌-◌, ◌<◌}
use native.Mathlib.Omega.{arith}
use lib.Dec.{ltb, eqb}
use lib.ListN.{length, get_or}
use borrow.Author.Tests.{lt-ltb, ne_eqb}
use Rattle.path_finding.specs.Line.{table, place_at, kind_at, direction_at}
use Rattle.path_finding.proofs.Lines.{table_at}
use Rattle.wire.specs.Lines.{NORMAL, straight}

pub place-at-node : (cs l : List ℕ) (k : ℕ) → k < length l → {r : ℕ} → r ≡ get_or cs (get_or l k 0) 0 → r ≡ get_or (table (place_at cs l) (length l)) k 0
unfolding place_at
place-at-node cs l k h e =
    e ∙ sym (table_at (place_at cs l) (length l) k h ∙ rw (lt-ltb k (length l) h))

module _ (links l : List ℕ) (i : ℕ) (behind : 0 < i) (inside : i < length l) where
  normal : eqb (kind_at (length l) i) NORMAL ≡ ltb (i + 1) (length l)
  unfolding kind_at
  normal = rw (ne_eqb i 0 (λ z. omega arith), lt-ltb i (length l) inside) (by (ltb (i + 1) (length l)))
    where
      by : (b : Bool) → eqb (cond b NORMAL 69) NORMAL ≡ b
      by true = refl
      by false = refl

  pub straight-at : (onward before : ℕ) → onward ≡ direction_at links l i → before ≡ direction_at links l (i - 1)
      → ltb (i + 1) (length l) && eqb onward before ≡ straight (table (kind_at (length l)) (length l)) (table (direction_at links l) (length l)) i
  unfolding straight
  straight-at onward before a b =
      rw (table_at (kind_at (length l)) (length l) i inside, table_at (direction_at links l) (length l) i inside, table_at (direction_at links l) (length l) (i - 1) (omega arith), normal, ← a, ← b)
