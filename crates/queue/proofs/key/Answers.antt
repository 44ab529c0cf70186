use Rattle.queue.proofs.Tournament.{key-low, key-none}
use Rattle.queue.proofs.key.Goals as goal

pub returns-then-f-lt-TALL : goal.returns-then-f-lt-TALL
returns-then-f-lt-TALL c = key-low _ _ c.if-f-lt-TALL.true

pub returns-else-f-lt-TALL : goal.returns-else-f-lt-TALL
returns-else-f-lt-TALL c = key-none _ _ c.if-f-lt-TALL.false
