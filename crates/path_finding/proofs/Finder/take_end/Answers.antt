use Rattle.std.proofs.Common.{sym, ◌∙◌}
use Rattle.columns.proofs.Laws.{column-long}
use Rattle.path_finding.proofs.Laws.{admit-old, admit-bare, mark-is, listed, marked-listed}
use Rattle.path_finding.proofs.Finder.take_end.Goals as goal
use Rattle.path_finding.proofs.Finder.take_end.Goals.{then-is_marked-via-then-is_marked, then-is_marked-via-else-is_marked+then-not-has_link}

pub returns-then-is_marked-clause-value : goal.returns-then-is_marked-clause-value
returns-then-is_marked-clause-value c =
    elim c.then-is_marked.branch [
      | then-is_marked-via-then-is_marked w ↦ admit-old _ _ _ (sym (mark-is _ _ _ _ c.requires.marked c.requires.inside.0) ∙ sym c.is_marked.ensures ∙ w.if-is_marked.true)
      | then-is_marked-via-else-is_marked+then-not-has_link w ↦ admit-bare _ _ _ (sym w.has_link.ensures ∙ w.if-not-has_link.true)
    ]

pub returns-clause-value : goal.returns-clause-value
returns-clause-value c =
    listed _ _ _ c.requires.inside.1 _ (sym (mark-is _ _ _ _ c.requires.marked c.requires.inside.0) ∙ sym c.is_marked.ensures ∙ c.if-is_marked.false) (sym c.has_link.ensures ∙ c.if-not-has_link.false)

pub returns-clause-marked : goal.returns-clause-marked
returns-clause-marked c = marked-listed c.args.self.now.list.now _ _ c.requires.inside.1 _ _ _ (column-long _ _ _) c.requires.inside.0 c.requires.marked c.put.ensures.0
