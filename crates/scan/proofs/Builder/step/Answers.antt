use Rattle.std.proofs.Common.{refl, arith}
use Rattle.nodes.specs.Graph.{link}
use Rattle.nodes.proofs.Maps.{keyed-linked}
use Rattle.scan.specs.Walk.{next, step}
use Rattle.scan.proofs.Grids.{place_on-is, find_on-is}
use Rattle.scan.proofs.Builder.step.Goals as goal

pub returns-in_err-node-clause-met : goal.returns-in_err-node-clause-met
unfolding step link
returns-in_err-node-clause-met c =
    rw (c.from_residual.ensures, place_on-is, ← c.along.ensures, ← c.place_at-x.ensures.x, ← c.place_at-x.ensures.y) c.in_err-node.ensures.met

pub returns-clause-met : goal.returns-clause-met
unfolding step next
returns-clause-met c =
    let p = c.in_ok-node.ensures.met in
    let l = rw c.index.ensures at c.link_both.ensures.value in
    rw (place_on-is, find_on-is, ← c.along.ensures, ← c.place_at-x.ensures.x, ← c.place_at-x.ensures.y) (p.0, omega (arith, p.1, c.link_both.ensures.kept), rw (l, p.2, p.0))

pub returns-clause-kept : goal.returns-clause-kept
returns-clause-kept c = record { same_page = refl; same_columns = refl; same_graph = refl; keyed = keyed-linked _ _ _ _ _ c.link_both.ensures.value c.in_ok-node.ensures.keyed }
