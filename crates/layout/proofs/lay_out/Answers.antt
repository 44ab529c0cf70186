use Rattle.layout.proofs.Blank.{blank-long}
use Rattle.layout.proofs.lay_out.Goals as goal

pub draw-requires-clause-blank : goal.draw-requires-clause-blank
draw-requires-clause-blank c = blank-long _ _ _ _ _ _ _ _ _ _ c.clear.ensures.cleared
