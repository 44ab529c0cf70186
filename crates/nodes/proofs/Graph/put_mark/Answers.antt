use Rattle.nodes.proofs.Columns.{marked, marked-whole}
use Rattle.nodes.proofs.Graph.put_mark.Goals as goal

pub returns-clause-value : goal.returns-clause-value
returns-clause-value c = marked c.args.self.now _ _

pub returns-clause-whole : goal.returns-clause-whole
returns-clause-whole c = marked-whole c.args.self.now _ _
