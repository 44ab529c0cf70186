-- Pruned, or as it was built.
use Rattle.std.proofs.Common.{ap, ◌∙◌, arith}
use Rattle.nodes.specs.Graph.{Graph}
use Rattle.prune.specs.Prune.{prune}
use Rattle.graph.specs.Build.{made}
use Rattle.graph.proofs.make.Goals as goal

pub returns-then-pruned : goal.returns-then-pruned
unfolding made
returns-then-pruned c =
    let e = c.in_ok-whole.ensures in
    rw c.if-pruned.true (omega (arith, ap (λ (g : Graph). g.count) e), c.remove_redundant_nodes.ensures ∙ ap prune e)

pub returns-else-pruned : goal.returns-else-pruned
unfolding made
returns-else-pruned c =
    let e = c.in_ok-whole.ensures in
    rw c.if-pruned.false (omega (arith, ap (λ (g : Graph). g.count) e), e)
