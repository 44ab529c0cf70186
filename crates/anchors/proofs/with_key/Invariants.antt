-- The anchors so far are those of the rows so far.
use Rattle.std.proofs.Common.{◌≡◌, ◌≤◌, length, take}
use Rattle.anchors.specs.Explicit.{with_key, columns}
use Rattle.anchors.proofs.with_key.Given as goal

abbrev pub invariant-loop-row : goal.invariant-loop-row
invariant-loop-row l =
    record {
      laid : columns (take l.count l.out) ≡ with_key l.ends l.rows l.key l.ignored l.row-index (columns (take l.n l.initial.out));
      inside : l.count ≤ length l.out;
    }
