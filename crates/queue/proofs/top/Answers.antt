-- The least key is that of the first least entry; where there is none, the scan finds it.
use Rattle.columns.proofs.Laws.{column-long}
use Rattle.queue.proofs.Steps.{some_of, first_of, least-of}
use Rattle.queue.proofs.top.Goals as goal

pub returns-then-x-lt-UNSET : goal.returns-then-x-lt-UNSET
returns-then-x-lt-UNSET c = first_of _ _ _ c.requires.0 (column-long _ _ _) c.if-x-lt-UNSET.true

pub scan-requires : goal.scan-requires
scan-requires c = (some_of _ _ _ c.requires.0 (column-long _ _ _), c.requires.1)

pub returns-else-x-lt-UNSET : goal.returns-else-x-lt-UNSET
returns-else-x-lt-UNSET c = least-of _ _ _ c.requires.0 (column-long _ _ _) _ c.scan.ensures
