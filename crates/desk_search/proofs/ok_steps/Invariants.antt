-- What the scan says of the whole list it says of what is left.
use Rattle.std.proofs.Common.{◌≡◌, drop}
use Rattle.fixed.specs.Up.{ups}
use Rattle.rows.specs.Rows.{scan}
use Rattle.desk_search.specs.Query.{ok_step}
use Rattle.desk_search.proofs.ok_steps.Given as goal

abbrev pub invariant-loop-i : goal.invariant-loop-i
invariant-loop-i l = scan ok_step (ups l.us) ≡ scan ok_step (drop l.i (ups l.us))
