use Rattle.std.proofs.Common.{◌∙◌}
use borrow.Author.Rules.{part_to_end}
use Rattle.path_finding.specs.Lent.{graph_in}
use Rattle.net.proofs.Branching.{branch-made}
use Rattle.net.proofs.Found.{on-path, branch-found}
use Rattle.wire.specs.Lent.{wires_of}
use Rattle.net.proofs.branch.Goals as goal

pub invariant_of-line : goal.invariant_of-line
invariant_of-line c =
    let f = c.args.finder.now in
    let b = c.branch_line-at in
    let p = on-path (graph_in f) c.requires.searchable.ready f.graph.now.few _ _ _ _ _ (part_to_end b.new.finder.list.now b.result ∙ b.ensures.line) in
    record { below = rw b.ensures.kept.same_graph p.0; few = p.1 }

pub returns-clause-value : goal.returns-clause-value
returns-clause-value c =
    let b = c.branch_line-at in
    let r = c.route_branch.ensures in
    branch-made (graph_in c.args.finder.now) _ _ 0 (wires_of c.args.wires.now) _ _ _ _ _ _ _ _
    (rw b.ensures.kept.same_graph (branch-found _ _ _ _ _ _ (part_to_end b.new.finder.list.now b.result ∙ b.ensures.line))) c.is_along-along.ensures r.value r.joins_value r.count
