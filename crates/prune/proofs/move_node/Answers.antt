use Rattle.std.proofs.Common.{◌<◌, arith}
use Rattle.prune.proofs.Lent.{moved_is}
use Rattle.prune.proofs.move_node.Goals as goal

pub returns-clause-value : goal.returns-clause-value
returns-clause-value c =
    let inside = c.requires.1 in
    let still : c.args.j < c.move_links.new.graph.count = omega (arith, c.put_place.ensures.kept, c.move_links.ensures.kept) in
    moved_is _ _ _ _ _ _ _ _ _ (c.x.ensures.value inside) (c.y.ensures.value inside) c.put_place.ensures.value c.move_links.ensures.value (c.mark.ensures.value still) c.put_mark.ensures.value
