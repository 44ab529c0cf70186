-- Each fill blanks a column and leaves the others.
use Rattle.path_finding.proofs.Laws.{blanked}
use Rattle.path_finding.proofs.Finder.blank.Goals as goal

pub returns-clause-blank : goal.returns-clause-blank
returns-clause-blank c =
    blanked _ c.requires c.args.self.now.graph.now.few _ _ _ _ _ _ _ _ c.args.self.now.cells_room c.args.self.now.tree_room c.fill.ensures.0 c.fill.ensures.1 c.fill-2.ensures.0 c.fill-2.ensures.1 c.fill-3.ensures.0 c.fill-3.ensures.1 c.fill-4.ensures.0 c.fill-4.ensures.1 c.fill-5.ensures.0 c.fill-5.ensures.1 c.fill-6.ensures.0 c.fill-6.ensures.1
