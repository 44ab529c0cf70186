-- The length by its law: counting so many zeros would pass the checker's stack.
use mathlib.Core.Path.{sym}
use Prim.Native.Nat.{ℕ}
use lib.ListN.{length-replicate}
use Rattle.vector_list.proofs.room.Goals as goal

pub returns : goal.returns
returns c = sym {A = ℕ} (length-replicate {0} {A = ℕ} 2097152 0)
