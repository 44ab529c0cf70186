use lib.ListN.{length}
use Prim.Native.Nat.{◌-◌}
use Rattle.page_text.proofs.Turns as T
use Rattle.page_text.proofs.read_lines.Given as goal

abbrev pub invariant-loop-at : goal.invariant-loop-at
invariant-loop-at l = T.Read l.text l.initial.desk l.desk l.at l.line

abbrev pub decreases-loop-at : goal.decreases-loop-at
decreases-loop-at l = length l.text - l.at
