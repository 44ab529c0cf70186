-- `desk::unlay` meets its contract. All entries move down one place.
use native.Mathlib.Omega.{arith}
use Rattle.rows.specs.Rows.{pasted}
use Rattle.desk.proofs.Whole
use Rattle.desk.proofs.unlay.Goals as goal

pub returns : goal.returns
unfolding pasted
returns c = Whole.took-off _ _ c.copy_within.ensures.after (c.copy_within.ensures.by_index.1 0 0 (omega arith))
