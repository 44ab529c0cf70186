use Rattle.std.proofs.Common.{◌∙◌, refl}
use borrow.Author.Rules.{part_to_end}
use Rattle.path_finding.specs.Lent.{graph_in}
use Rattle.net.proofs.Found.{on-path, line-found, root-routed, root-path, one_place}
use Rattle.net.proofs.root.Goals as goal

pub invariant_of-line : goal.invariant_of-line
invariant_of-line c =
    let f = c.args.finder.now in
    let b = c.line_to-at in
    let p = on-path (graph_in f) c.requires.ready f.graph.now.few _ _ _ _ _ (part_to_end b.new.finder.list.now b.result ∙ b.ensures.line) in
    record { below = rw b.ensures.kept.same_graph p.0; few = p.1 }

pub returns-clause-value : goal.returns-clause-value
returns-clause-value c =
    let b = c.line_to-at in
    root-routed _ _ _ _ _ _ _ _ _ _ _ c.route_wire.ensures.value
    (rw b.ensures.kept.same_graph (line-found _ _ _ _ _ _ (part_to_end b.new.finder.list.now b.result ∙ root-path _ _ _ _ _ _ _ _ (one_place _ _ _ refl c.put.ensures) (one_place _ _ _ refl c.put-2.ensures) b.ensures.line))) c.is_along-along.ensures
