use Rattle.std.proofs.Common.{refl, arith}
use Rattle.path_finding.specs.Lent.{graph_in}
use Rattle.path_finding.proofs.Between.{no_start, no_end, all-known, no-line_between, line-found}
use Rattle.path_finding.proofs.Finder.find_between.Goals as goal

pub returns-in_default-clause-answered : goal.returns-in_default-clause-answered
returns-in_default-clause-answered c = no_start _ _ _ _ _ _ c.in_default.ensures

pub returns-then-not-look_up-clause-answered : goal.returns-then-not-look_up-clause-answered
returns-then-not-look_up-clause-answered c = no_end _ _ _ _ _ _ _ c.in-Some.ensures c.if-not-look_up.ensures.known

pub find_line-at-requires-clause-ends : goal.find_line-at-requires-clause-ends
find_line-at-requires-clause-ends c =
    let ends = c.if-not-look_up.ensures.value refl in
    rw c.look_up.ensures.kept.same_graph (omega (arith, c.look_up.ensures.kept.long_list), all-known (graph_in c.args.self.now) _ _ _ c.if-not-look_up.ensures.known ends)

pub returns-then-at-self-clause-answered : goal.returns-then-at-self-clause-answered
returns-then-at-self-clause-answered c =
    let ends = c.if-not-look_up.ensures.value refl in
    let line = rw c.look_up.ensures.kept.same_graph at c.find_line-at.ensures.value in
    no-line_between _ _ _ _ _ _ _ c.in-Some.ensures c.if-not-look_up.ensures.known _ ends _ line c.if-at-self.true

pub returns-clause-answered : goal.returns-clause-answered
returns-clause-answered c =
    let ends = c.if-not-look_up.ensures.value refl in
    let line = rw c.look_up.ensures.kept.same_graph at c.find_line-at.ensures.value in
    line-found _ _ _ _ _ _ _ c.in-Some.ensures c.if-not-look_up.ensures.known _ ends _ line c.find_line-at.ensures.within c.if-at-self.false
