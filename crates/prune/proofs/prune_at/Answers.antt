use Rattle.std.proofs.Common.{ap, ◌∙◌, arith}
use Rattle.nodes.specs.Graph.{Graph}
use Rattle.prune.proofs.Lent.{goes_at, drop-count, prune-stays, prune-goes}
use Rattle.prune.proofs.prune_at.Goals as goal

pub link-b-requires : goal.link-b-requires
link-b-requires c = let q = goes_at _ _ _ _ _ c.in-Some.ensures in (omega arith, omega arith)

pub link_both-requires : goal.link_both-requires
link_both-requires c =
    let q = goes_at _ _ _ _ _ c.in-Some.ensures in
    (omega arith, omega (arith, c.link-a.ensures.value c.requires), omega (arith, c.link-b.ensures.value c.requires))

pub returns-in-Some-clause-value : goal.returns-in-Some-clause-value
returns-in-Some-clause-value c =
    prune-goes _ _ _ _ _ _ _ c.in-Some.ensures (c.link-a.ensures.value c.requires) (c.link-b.ensures.value c.requires) c.link_both.ensures.value c.drop_node.ensures

pub returns-in-Some-clause-upper_bound : goal.returns-in-Some-clause-upper_bound
returns-in-Some-clause-upper_bound c =
    let e = ap (λ (g : Graph). g.count) c.drop_node.ensures ∙ drop-count _ _ in
    (omega (arith, e, c.link_both.ensures.kept), omega (arith, e, c.link_both.ensures.kept))

pub returns-in_default-clause-value : goal.returns-in_default-clause-value
returns-in_default-clause-value c = prune-stays _ _ c.in_default.ensures
