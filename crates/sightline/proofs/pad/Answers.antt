use Rattle.std.proofs.Common.{refl}
use Rattle.sightline.specs.Boxes.{padded}
use Rattle.sightline.proofs.pad.Goals as goal

pub returns-then-high : goal.returns-then-high
unfolding padded
returns-then-high c = rw c.if-high.true refl

pub returns-else-high : goal.returns-else-high
unfolding padded
returns-else-high c = rw c.if-high.false refl
