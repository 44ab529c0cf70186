-- Five stores into one row.
use Rattle.layout.specs.Layout.{put_net}
use native.Mathlib.Omega.{arith}
use lib.ListN.{length-set}
use mathlib.Core.Path.{refl}
use Rattle.layout.proofs.put_net.Goals as goal

-- src/lib.rt:25:5
pub bounds-nets-i-2 : goal.bounds-nets-i-2
bounds-nets-i-2 c = simp length-set (omega arith)

-- src/lib.rt:26:5
pub bounds-nets-i-3 : goal.bounds-nets-i-3
bounds-nets-i-3 c = simp length-set (omega arith)

-- src/lib.rt:27:5
pub bounds-nets-i-4 : goal.bounds-nets-i-4
bounds-nets-i-4 c = simp length-set (omega arith)

-- src/lib.rt:28:5
pub bounds-nets-i-5 : goal.bounds-nets-i-5
bounds-nets-i-5 c = simp length-set (omega arith)

-- src/lib.rt:20:1
pub returns : goal.returns
unfolding put_net
returns c = refl
