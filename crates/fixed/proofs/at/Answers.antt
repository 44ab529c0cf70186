use mathlib.Core.Path.{◌∙◌, sym, ap}
use borrow.Author.Rules.{rules}
use lib.IntN.{pos}
use Rattle.fixed.specs.Up.{up}
use Rattle.fixed.proofs.Lists.{ups-at}
use Rattle.fixed.proofs.at.Goals as goal

-- what was read is in range, so its bits read back are it

pub returns : goal.returns
returns c =
    c.up.ensures ∙ ap up (search rules) ∙ sym (ups-at c.args.xs.now c.args.i (pos 0) c.requires)
