-- The cells before k are marked, the others as they were.
use Rattle.std.proofs.Common.{◌≡◌, ℕ, ◌<◌, ◌≤◌, false, ◌||◌, ◌&&◌, ltb, leb, get_or}
use Rattle.fixed.specs.Up.{ups}
use Rattle.corridors.proofs.mark_cells.Given as goal

abbrev pub invariant-loop-k : goal.invariant-loop-k
invariant-loop-k l = ((j : ℕ) → j < l.k → get_or l.marks j false ≡ (get_or l.initial.marks j false || (leb l.f (get_or (ups l.xs) j 0) && ltb (get_or (ups l.xs) j 0) l.t))) × ((j : ℕ) → l.k ≤ j → get_or l.marks j false ≡ get_or l.initial.marks j false)
