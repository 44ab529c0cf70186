-- `rows::gather` meets its contract. The first i keys stand side by side.
use mathlib.Core.Path.{◌≡◌}
use mathlib.Core.List.{◌++◌}
use lib.ListN.{take, drop}
use Rattle.rows.specs.Rows.{keys}
use Rattle.rows.proofs.gather.Given as goal

abbrev pub invariant-loop-i : goal.invariant-loop-i
invariant-loop-i l = take l.i l.words ++ drop l.i (keys l.w l.n l.area) ≡ keys l.w l.n l.area
