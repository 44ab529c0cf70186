use Rattle.std.proofs.Common.{◌≡◌, length}
use Rattle.decimals.specs.Bytes.{TAB, split}
use Rattle.page_line.proofs.Shapes as S
use Rattle.page_line.proofs.read_fields.Given as goal

abbrev pub invariant-loop-field : goal.invariant-loop-field
invariant-loop-field l = (l.n ≡ length l.yielded) × S.Fields (split TAB l.s) l.vals l.n
