-- On the way up only the next parent may not be the lesser of its two.
use mathlib.Core.Path.{◌≡◌}
use lib.ListN.{length}
use Rattle.queue.proofs.Tournament.{Rising}
use Rattle.queue.proofs.raise.Given as goal

abbrev pub invariant-loop-k : goal.invariant-loop-k
invariant-loop-k l = Rising l.n l.initial.tree l.tree l.k l.best × (length l.tree ≡ length l.initial.tree)

abbrev pub decreases-loop-k : goal.decreases-loop-k
decreases-loop-k l = l.k
