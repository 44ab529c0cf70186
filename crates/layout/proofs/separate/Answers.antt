-- The parts of the columns are separated, the rest stays.
use native.Mathlib.Omega.{arith}
use mathlib.Core.Path.{sym}
use lib.Seq.{length-take-le}
use Rattle.layout.proofs.Separating.{separable, separated-is}
use Rattle.layout.proofs.separate.Goals as goal

pub slice_bounds-separate_wires-end-2 : goal.slice_bounds-separate_wires-end-2
slice_bounds-separate_wires-end-2 c = sym (length-take-le _ c.args.x.now (omega arith))

pub slice_bounds-separate_wires-end-4 : goal.slice_bounds-separate_wires-end-4
slice_bounds-separate_wires-end-4 c = sym (length-take-le _ c.args.y.now (omega arith))

pub slice_bounds-separate_wires-end-5 : goal.slice_bounds-separate_wires-end-5
slice_bounds-separate_wires-end-5 c = sym (length-take-le _ c.args.joins.now (omega arith))

pub separate_wires-requires : goal.separate_wires-requires
separate_wires-requires c = let both = separable _ _ _ c.args.joins.now _ c.args.counts.j (omega arith) (omega arith) c.requires.separable in record { joined = both.0; y_len = both.1.0; within = both.1.1 }

pub returns : goal.returns
returns c = separated-is _ _ _ _ _ _ _ _ c.separate_wires.ensures
