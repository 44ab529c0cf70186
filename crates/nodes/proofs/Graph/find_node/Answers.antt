use Rattle.std.proofs.Common.{sym, ◌∙◌, arith}
use Rattle.nodes.proofs.Nodes.{find-here, find-none}
use Rattle.nodes.proofs.Graph.find_node.Goals as goal

pub returns-then-stands : goal.returns-then-stands
returns-then-stands c = (find-here _ _ _ _ (omega arith) c.loop-i.invariant (sym c.stands.ensures ∙ c.if-stands.true), omega arith)

pub returns : goal.returns
returns c = find-none _ _ _ c.loop-i.i (omega arith) c.loop-i.invariant
