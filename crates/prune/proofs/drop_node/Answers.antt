use Rattle.std.proofs.Common.{◌∙◌, refl}
use Rattle.nodes.specs.Columns.{graph_of}
use Rattle.prune.proofs.Lent.{shrunk, drop-last, drop-inner, relinked-count}
use Rattle.prune.proofs.drop_node.Goals.{then-i-last, else-i-last}
use Rattle.prune.proofs.drop_node.Goals as goal

pub returns : goal.returns
returns c =
    let s = c.args.graph.now in
    elim c.if-i-last.branch [
      | then-i-last w ↦
          let count = relinked-count _ _ _ w.backs.ensures ∙ w.move_node.ensures.kept in
          rw w.graph-is (shrunk w.backs.new.graph s.count count ∙ drop-inner (graph_of s) _ _ c.args.i w.if-i-last.true w.move_node.ensures.value w.backs.ensures)
      | else-i-last w ↦ rw w.graph-is (shrunk s s.count refl ∙ drop-last s c.args.i w.if-i-last.false)
    ]
