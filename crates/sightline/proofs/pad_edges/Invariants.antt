-- The edges that were stored stand over what was there.
use Rattle.std.proofs.Common.{◌≡◌, ◌++◌, length, drop}
use Rattle.fixed.specs.Up.{ups}
use Rattle.sightline.specs.Boxes.{edges}
use Rattle.sightline.proofs.pad_edges.Given as goal

abbrev pub invariant-loop-i : goal.invariant-loop-i
invariant-loop-i l = record { long : length l.out ≡ length l.initial.out; over : ups l.out ≡ edges l.rows l.width l.field l.high l.i ++ drop l.i (ups l.initial.out) }
