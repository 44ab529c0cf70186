-- A step beyond each coordinate there is another.
use Rattle.std.proofs.Common.{arith}
use Rattle.corridors.proofs.Laying.{inside-any}
use Rattle.corridors.proofs.Grid.yields.Goals as goal

pub overflow_add-lo : goal.overflow_add-lo
overflow_add-lo c =
    omega (arith, inside-any c.args.self.now.xs.now c.args.v.start c.args.self.now.inside, c.coord-lo.ensures)
