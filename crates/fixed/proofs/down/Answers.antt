use mir.Syntax.{w32}
use mir.ValLaws.{to_z-of_z}
use Rattle.fixed.specs.Up.{down}
use Rattle.fixed.proofs.Bias.{down-in}
use Rattle.fixed.proofs.Machine.{less-back}
use Rattle.fixed.proofs.down.Goals as goal

pub returns : goal.returns
returns c =
    rw (less-back c.args.u c.ranges.u.fits)
    (to_z-of_z w32 (down c.args.u) (record { sfits = down-in c.args.u c.ranges.u.fits }))
