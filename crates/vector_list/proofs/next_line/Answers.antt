use native.Mathlib.Omega.{arith}
use Rattle.decimals.proofs.Split.{find_inside}
use Rattle.vector_list.proofs.next_line.Goals as goal

pub behind-requires : goal.behind-requires
behind-requires c = find_inside _ _ _ _ c.find.ensures (omega arith)
