-- A store changes one leaf of the tree.
use Rattle.std.proofs.Common.{arith}
use Rattle.columns.proofs.Laws.{column-long}
use Rattle.queue.proofs.Steps.{few-of, tree_of, put_of}
use Rattle.queue.proofs.put.Goals as goal

pub key-requires : goal.key-requires
key-requires c =
    omega (arith, c.requires.1, few-of _ _ _ c.requires.0 (column-long _ _ _))

pub raise-requires : goal.raise-requires
raise-requires c =
    (tree_of _ _ _ c.requires.0 (column-long _ _ _), c.requires.1, few-of _ _ _ c.requires.0 (column-long _ _ _))

pub returns : goal.returns
returns c =
    (c.put.ensures.0, c.put.ensures.1, put_of _ _ _ c.requires.0 (column-long _ _ _) _ _ _ _ _ c.put.ensures.0 c.requires.1 c.key.ensures c.raise.ensures.0 c.raise.ensures.1)
