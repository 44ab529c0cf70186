-- `block::distinct` meets its contract. What the scan says of the whole list it says of what is left.
use mathlib.Core.Path.{◌≡◌}
use lib.ListN.{drop}
use Rattle.block.specs.Block.{apart}
use Rattle.rows.specs.Rows.{scan}
use Rattle.block.proofs.distinct.Given as goal

abbrev pub invariant-loop-i : goal.invariant-loop-i
invariant-loop-i l = scan apart l.ids ≡ scan apart (drop l.i l.ids)
