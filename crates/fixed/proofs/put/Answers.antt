use mathlib.Core.Path.{◌≡◌}
use borrow.Author.Rules.{rules}
use mir.Syntax.{w32}
use mir.Val.{to_z, of_z}
use Rattle.fixed.proofs.Lists.{ups-set}
use Rattle.fixed.proofs.put.Goals as goal

-- the bits that `down` gave, read back, are what it gave

pub returns : goal.returns
returns c =
    let back : to_z w32 (of_z w32 c.down-x.result) ≡ c.down-x.result = search rules in
    rw (back, c.down-x.ensures) (ups-set c.args.xs.now c.args.i c.args.u)
