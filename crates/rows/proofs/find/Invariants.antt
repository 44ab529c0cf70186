-- `rows::find` meets its contract. What is left to search gives the same place.
use mathlib.Core.Path.{◌≡◌}
use Prim.Native.Nat.{◌+◌}
use lib.ListN.{drop}
use Rattle.rows.specs.Rows.{keys, place}
use Rattle.rows.proofs.find.Given as goal

abbrev pub invariant-loop-i : goal.invariant-loop-i
invariant-loop-i l = l.i + place l.key (drop l.i (keys l.w l.n l.area)) ≡ place l.key (keys l.w l.n l.area)
