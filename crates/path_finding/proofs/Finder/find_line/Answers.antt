use Rattle.astar.proofs.Line.{line-traced}
use Rattle.path_finding.proofs.Lines.{all-goals, goals-are-nodes, none-counts, drop-all, no_line, a-line}
use Rattle.path_finding.proofs.Keeping.{kept_trans}
use Rattle.path_finding.proofs.Finder.find_line.Goals as goal

pub returns-then-m-eq0-clause-value : goal.returns-then-m-eq0-clause-value
returns-then-m-eq0-clause-value c =
    let value = rw (c.blank.ensures.kept.same_graph, c.blank.ensures.list) at c.gather-m.ensures.value in
    rw drop-all (none-counts _ c.requires.ready _ _ c.requires.start _ _ c.if-m-eq0.true (all-goals _ _ _ c.requires.ends.0 _ value))

pub find_path_impl-requires-clause-inside : goal.find_path_impl-requires-clause-inside
find_path_impl-requires-clause-inside c =
    let kept = kept_trans c.blank.ensures.kept c.gather-m.ensures.kept in
    let value = rw (c.blank.ensures.kept.same_graph, c.blank.ensures.list) at c.gather-m.ensures.value in
    rw kept.same_graph (c.requires.start, goals-are-nodes _ _ _ _ c.requires.ends.1 (all-goals _ _ _ c.requires.ends.0 _ value))

pub build_path-requires : goal.build_path-requires
build_path-requires c =
    let kept = kept_trans c.blank.ensures.kept c.gather-m.ensures.kept in
    let state = rw kept.same_graph at c.find_path_impl.ensures.state in
    let found = rw kept.same_graph at c.in-Some.ensures.value in
    rw kept.same_graph (line-traced _ c.requires.ready _ _ c.requires.start _ state _ found)

pub returns-in-None-clause-value : goal.returns-in-None-clause-value
returns-in-None-clause-value c =
    let kept = kept_trans c.blank.ensures.kept c.gather-m.ensures.kept in
    let value = rw (c.blank.ensures.kept.same_graph, c.blank.ensures.list) at c.gather-m.ensures.value in
    let state = rw kept.same_graph at c.find_path_impl.ensures.state in
    let none = rw kept.same_graph at c.in-None.ensures.value in
    rw drop-all (no_line _ c.requires.ready _ _ _ c.requires.start _ (all-goals _ _ _ c.requires.ends.0 _ value) state none)

pub returns-in-Some-clause-value : goal.returns-in-Some-clause-value
returns-in-Some-clause-value c =
    let kept = kept_trans c.blank.ensures.kept c.gather-m.ensures.kept in
    let value = rw (c.blank.ensures.kept.same_graph, c.blank.ensures.list) at c.gather-m.ensures.value in
    let state = rw kept.same_graph at c.find_path_impl.ensures.state in
    let found = rw kept.same_graph at c.in-Some.ensures.value in
    let path = rw kept.same_graph at c.build_path.ensures.value in
    a-line _ c.requires.ready _ _ _ c.requires.start _ (all-goals _ _ _ c.requires.ends.0 _ value) state _ found _ path
