use Rattle.std.proofs.Common.{◌≡◌, ◌≤◌, take, length}
use Rattle.net.specs.Points.{column}
use Rattle.wire.specs.Lent.{xs_of, ys_of}
use Rattle.net.proofs.take_points.Given as goal

abbrev pub invariant-loop-k : goal.invariant-loop-k
invariant-loop-k l = record {
  few : l.m ≤ l.k;
  long : length l.points ≡ length l.initial.points;
  x_value : take l.m (xs_of l.points) ≡ column 1 l.ends l.id l.k;
  y_value : take l.m (ys_of l.points) ≡ column 2 l.ends l.id l.k;
}
