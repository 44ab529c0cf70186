use Rattle.nodes.proofs.Columns.{linked-by}
use Rattle.nodes.proofs.Graph.link_both.Goals as goal

pub returns-clause-value : goal.returns-clause-value
returns-clause-value c = linked-by _ _ _ _ _ _ c.put_link.ensures.value (rw c.opposite.ensures at c.put_link-2.ensures.value)

pub returns-clause-whole : goal.returns-clause-whole
returns-clause-whole c = linked-by _ _ _ _ _ _ c.put_link.ensures.whole (rw c.opposite.ensures at c.put_link-2.ensures.whole)
