-- The keys of both axes name pairs of the page.
use Rattle.std.proofs.Common.{arith}
use Rattle.fixed.proofs.Lists.{length-ups}
use Rattle.fixup.proofs.Axis.{is-gathered, is-listed, axes-done, wires-done}
use Rattle.fixup.proofs.separate_wires.Goals as goal

pub separate_axis-requires-clause-listed : goal.separate_axis-requires-clause-listed
separate_axis-requires-clause-listed c =
    let n = length-ups c.args.y.now in
    is-listed _ _ _ _ _ _ (is-gathered _ _ _ _ _ _ _ _ n c.none-horizontal.ensures c.gather.ensures.gathered) _ (omega arith) c.requires.y_len.2 c.requires.within.1

pub separate_axis-requires-2-clause-listed : goal.separate_axis-requires-2-clause-listed
separate_axis-requires-2-clause-listed c =
    let n = length-ups c.args.x.now in
    is-listed _ _ _ _ _ _ (is-gathered _ _ _ _ _ _ _ _ n c.none-vertical.ensures c.gather-2.ensures.gathered) _ n c.requires.y_len.2 c.requires.within.0

pub returns : goal.returns
returns c =
    wires-done _ _ _ _ _ _ (is-gathered _ _ _ _ _ _ _ _ (length-ups c.args.y.now) c.none-horizontal.ensures c.gather.ensures.gathered)
    (is-gathered _ _ _ _ _ _ _ _ (length-ups c.args.x.now) c.none-vertical.ensures c.gather-2.ensures.gathered)
    (axes-done _ _ _ _ _ _ _ c.separate_axis.ensures c.separate_axis-2.ensures)
