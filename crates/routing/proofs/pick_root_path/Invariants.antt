use Rattle.std.proofs.Common.{◌≡◌, ◌<◌, ◌*◌}
use Rattle.routing.specs.Roots.{root_to}
use Rattle.wire.specs.Lent.{xs_of, ys_of}
use Rattle.routing.proofs.pick_root_path.Given as goal

abbrev pub invariant-loop-p : goal.invariant-loop-p
invariant-loop-p l = record {
  greatest : l.best ≡ root_to (xs_of l.points) (ys_of l.points) l.n l.p;
  below : l.best < l.n * l.n;
}
