-- The anchors so far are those of the keys so far.
use Rattle.std.proofs.Common.{◌≡◌, ◌/◌, ◌≤◌, length, take}
use Rattle.anchors.specs.Records.{ROW}
use Rattle.anchors.specs.Explicit.{with_keys, columns}
use Rattle.anchors.proofs.with_keys.Given as goal

abbrev pub invariant-loop-i : goal.invariant-loop-i
invariant-loop-i g l =
    record {
      laid : columns (take l.count l.out) ≡ with_keys l.ends l.rows (length l.rows / ROW) l.keys g.row.WIDTH l.i (columns (take l.n l.initial.out));
      inside : l.count ≤ length l.out;
    }
