use Rattle.std.proofs.Common.{◌≡◌, take, length}
use Rattle.fixed.specs.Up.{ups}
use Rattle.net.specs.Nets.{end_word}
use Rattle.path_finding.specs.Line.{table}
use Rattle.wire.specs.Lent.{words}
use Rattle.net.proofs.line_to_ends.Given as goal

abbrev pub invariant-loop-i : goal.invariant-loop-i
invariant-loop-i g l = record {
  long_x : length l.x ≡ length l.initial.x;
  long_y : length l.y ≡ length l.initial.y;
  x_value : take l.i (ups l.x) ≡ table (end_word 0 (words l.wires.ends.now)) l.i;
  y_value : take l.i (ups l.y) ≡ table (end_word 1 (words l.wires.ends.now)) l.i;
}
