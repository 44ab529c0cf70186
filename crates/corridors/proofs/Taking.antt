-- Taking a run out of the following rows.
use Rattle.std.proofs.Common.{◌≡◌, refl, true, false, ◌<◌, ◌≤◌, ℕ, zero, suc, ◌+◌, ◌-◌, List, [], length, get_or, set, arith}
use lib.Seq.{set-get_or}
use Rattle.corridors.specs.declared.row.Row.{Row}
use Rattle.corridors.specs.Merge.{Table, has, take_out}
use Rattle.corridors.specs.Lent.{taken, removed, row, table}
use Rattle.corridors.proofs.Rows.{row_at, table-set}

more : (v k m : ℕ) (t : Table) → 0 < m → true ≡ has (get_or t k []) v → take_out v (k + 1) (m - 1) (set t k (removed (get_or t k []) v)) ≡ take_out v k m t
unfolding take_out removed
more v k zero t h e = absurd (omega arith)
more v k (suc m) t h e = let q : suc m - 1 ≡ m = omega arith in rw (q, ← e)

stop : (v k m : ℕ) (t : Table) → false ≡ has (get_or t k []) v → taken k t ≡ take_out v k m t
unfolding take_out
stop v k zero t e = refl
stop v k (suc m) t e = rw (← e)

module _ (rows : List Row) (v n k : ℕ) (d b : Row) (h : k < length rows) (c : row b ≡ removed (row (get_or rows k d)) v) where
  pub taking-on : k < n → true ≡ has (row (get_or rows k d)) v → take_out v (k + 1) (n - (k + 1)) (table (set rows k b)) ≡ take_out v k (n - k) (table rows)
  taking-on lt e =
      let q : n - (k + 1) ≡ n - k - 1 = omega arith in
      let r = row_at rows k d h in
      rw (q, table-set rows k b, c, ← r) (more v k (n - k) (table rows) (omega arith) (rw r e))

  pub taking-stopped : false ≡ has (row (get_or rows k d)) v → taken k (table (set rows k b)) ≡ take_out v k (n - k) (table rows)
  unfolding removed
  taking-stopped e =
      let r = row_at rows k d h in
      let s : set (table rows) k (row (get_or rows k d)) ≡ table rows = rw (← r) (set-get_or (table rows) k []) in
      rw (table-set rows k b, c, ← e, s) (stop v k (n - k) (table rows) (rw r e))

pub taking-done : (v n k : ℕ) (t : Table) → n ≤ k → taken k t ≡ take_out v k (n - k) t
unfolding take_out
taking-done v n k t h = let q : n - k ≡ 0 = omega arith in rw q

pub ruleset out = (taking-on, taking-stopped, taking-done)
