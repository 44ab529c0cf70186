use Rattle.std.proofs.Common.{sym, ◌∙◌}
use Rattle.desk_search.proofs.Call.{lent-desk, says-1, says_on}
use Rattle.desk_search.proofs.search.Goals as goal

pub returns-then-not-is_lent-clause-value : goal.returns-then-not-is_lent-clause-value
returns-then-not-is_lent-clause-value c = (says-1 _ _ _ (sym c.is_lent.ensures ∙ c.if-not-is_lent.true)).0

pub returns-then-not-is_lent-clause-output_after : goal.returns-then-not-is_lent-clause-output_after
returns-then-not-is_lent-clause-output_after c = (says-1 _ _ _ (sym c.is_lent.ensures ∙ c.if-not-is_lent.true)).1

pub search_lent-requires : goal.search_lent-requires
search_lent-requires c = lent-desk _ _ (sym c.is_lent.ensures ∙ c.if-not-is_lent.false)

pub returns-clause-value : goal.returns-clause-value
returns-clause-value c = (says_on _ _ _ (sym c.is_lent.ensures ∙ c.if-not-is_lent.false) _ _ c.search_lent.ensures.value c.search_lent.ensures.output_after).0

pub returns-clause-output_after : goal.returns-clause-output_after
returns-clause-output_after c = (says_on _ _ _ (sym c.is_lent.ensures ∙ c.if-not-is_lent.false) _ _ c.search_lent.ensures.value c.search_lent.ensures.output_after).1
