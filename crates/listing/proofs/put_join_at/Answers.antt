use mathlib.Core.Path.{◌≡◌, ap}
use mathlib.Core.List.{List}
use Prim.Native.Nat.{ℕ, ◌+◌, ◌-◌, ◌*◌, ◌%◌, ◌≤◌}
use native.Mathlib.Omega.{arith}
use lib.ListN.{length, get_or}
use borrow.Author.Tests.{eq-eqb, ne_eqb}
use Rattle.decimals.specs.Write.{Put}
use Rattle.decimals.proofs.Written.{written_none}
use Rattle.listing.specs.Listing.{join_line, join_at}
use Rattle.listing.proofs.put_join_at.Goals as goal

module _ (J : List ℕ) (first v r w : ℕ) (is : w ≡ get_or J (r * 3) 0) where
  -- a row of another vertex has no line
  other : (buf : List ℕ) (at : ℕ) → at ≤ length buf → (w ≡ first + v → ⊥) → Put buf at (join_at J first v r) buf at
  unfolding join_at
  other buf at h ne = rw (← is, ne_eqb _ _ ne) (record { bytes = written_none buf at h; next = omega arith })

  -- the line of one of v's rows
  module _ (same : w ≡ first + v) (e a l : ℕ) (at-e : e ≡ a - first) (at_a : a ≡ get_or J (r * 3 + 1) 0) (at-l : l ≡ get_or J (r * 3 + 2) 0) where
    is-line : join_at J first v r ≡ join_line v e (l % 256)
    unfolding join_at
    is-line = rw (← is, eq-eqb _ _ same, ← at-l, ← at_a, ← at-e)

pub returns-then-get_or-net : goal.returns-then-get_or-net
returns-then-get_or-net c = other _ _ _ _ _ c.get_or.ensures _ _ (omega arith) (λ e. omega arith)

pub put_join-requires : goal.put_join-requires
put_join-requires c =
    let s = c.args in
    let e = is-line s.page.junctions.now s.net.first s.v s.r _ c.get_or.ensures (omega arith) _ _ _ c.saturating_sub-e.ensures c.get_or-2.ensures c.get_or-3.ensures in
    omega (arith, c.requires.r_in_bounds, ap length e)

pub returns : goal.returns
returns c =
    let s = c.args in
    rw (is-line s.page.junctions.now s.net.first s.v s.r _ c.get_or.ensures (omega arith) _ _ _ c.saturating_sub-e.ensures c.get_or-2.ensures c.get_or-3.ensures) c.put_join.ensures
