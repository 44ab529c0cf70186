use Rattle.std.proofs.Common.{sym, ◌∙◌}
use Rattle.scan.proofs.Reaches.{part-rising, reach-ahead, behind-le, reach-behind}
use Rattle.scan.proofs.Way.reach.Goals as goal

pub cutoff-cut-requires-clause-rising : goal.cutoff-cut-requires-clause-rising
cutoff-cut-requires-clause-rising c = rw (c.beyond-part.ensures, ← c.requires.follows) (part-rising c.args.self.dir _ _ c.requires.from_in c.requires.rising)

pub overflow_sub-result : goal.overflow_sub-result
overflow_sub-result c =
    behind-le c.args.self.dir _ _ c.requires.from_in _ _ _ (sym c.is_ahead-ahead.ensures ∙ c.if-ahead.false) (rw (c.is_ahead-ahead.ensures, c.beyond-part.ensures, ← c.requires.follows) at c.cutoff-cut.ensures)

pub returns-then-ahead : goal.returns-then-ahead
returns-then-ahead c =
    reach-ahead c.args.self.dir _ _ c.requires.from_in _ _ _ (sym c.is_ahead-ahead.ensures ∙ c.if-ahead.true) (rw (c.is_ahead-ahead.ensures, c.beyond-part.ensures, ← c.requires.follows, c.axis.ensures) at c.cutoff-cut.ensures)

pub returns-else-ahead : goal.returns-else-ahead
returns-else-ahead c =
    reach-behind c.args.self.dir _ _ c.requires.from_in _ _ _ (sym c.is_ahead-ahead.ensures ∙ c.if-ahead.false) (rw (c.is_ahead-ahead.ensures, c.beyond-part.ensures, ← c.requires.follows, c.axis.ensures) at c.cutoff-cut.ensures)
