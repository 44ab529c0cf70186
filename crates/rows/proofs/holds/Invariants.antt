-- `rows::holds` meets its contract. The key is among all the rows, if it is among those seen or those left.
use mathlib.Core.Path.{◌≡◌}
use mathlib.Core.Bool.{◌||◌}
use lib.ListN.{drop}
use Rattle.rows.specs.Rows.{count, keys, is_in}
use Rattle.rows.proofs.holds.Given as goal

abbrev pub invariant-loop-i : goal.invariant-loop-i
invariant-loop-i l = is_in l.key (keys l.w (count l.area) l.area) ≡ l.r || is_in l.key (drop l.i (keys l.w (count l.area) l.area))
