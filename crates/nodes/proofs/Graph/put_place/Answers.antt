use Rattle.nodes.proofs.Columns.{stood, stood-whole}
use Rattle.nodes.proofs.Graph.put_place.Goals as goal

pub returns-clause-value : goal.returns-clause-value
returns-clause-value c = stood c.args.self.now _ _ _ _ _ c.put.ensures c.put-2.ensures

pub returns-clause-whole : goal.returns-clause-whole
returns-clause-whole c = stood-whole c.args.self.now _ _ _ _ _ c.put.ensures c.put-2.ensures
