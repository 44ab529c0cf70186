-- The nets from a page with none, and their separation.
use Rattle.layout.proofs.Laying.{from-blank, drawn-as-is, drawn-apart, page-separable}
use Rattle.layout.proofs.draw.Goals as goal

pub returns-then-not-apart : goal.returns-then-not-apart
returns-then-not-apart c = drawn-as-is _ _ _ c.if-not-apart.true c.lay_nets-counts.ensures.value

pub separate-requires-clause-separable : goal.separate-requires-clause-separable
separate-requires-clause-separable c =
    let b = c.requires.room in
    page-separable _ c.requires.ground _ _ _ _ _ _ _ _ _ b.1 b.2 b.3 b.4 _ _ _ _ (from-blank _ _ _ _ _ _ _ _ c.requires.blank c.lay_nets-counts.ensures.value)

pub returns : goal.returns
returns c = drawn-apart _ _ _ _ _ _ _ c.if-not-apart.false c.lay_nets-counts.ensures.value c.separate.ensures
