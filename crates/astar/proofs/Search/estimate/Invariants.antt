-- The best of the ends passed and the nearest of those left give the nearest of all.
use Rattle.std.proofs.Common.{◌≡◌, ◌≤◌, min, drop}
use Rattle.astar.specs.Search.{FAR, nearest}
use Rattle.astar.specs.Lent.{graph_in}
use Rattle.astar.proofs.Search.estimate.Given as goal

abbrev pub invariant-loop-e : goal.invariant-loop-e
invariant-loop-e l = (l.best ≤ FAR) × (min l.best (nearest (graph_in l.self).xs (graph_in l.self).ys (drop l.e-index l.self.ends.now) l.v) ≡ nearest (graph_in l.self).xs (graph_in l.self).ys l.self.ends.now l.v)
