use Rattle.std.proofs.Common.{refl}
use Rattle.wire.proofs.Pushes.{three, two}
use Rattle.wire.proofs.types.Fallback.vertices.Goals as goal

pub returns-then-is_bent : goal.returns-then-is_bent
returns-then-is_bent c = three _ _ _ _ _ _ _ refl refl _ c.is_bent.ensures c.if-is_bent.true

pub returns-else-is_bent : goal.returns-else-is_bent
returns-else-is_bent c = two _ _ _ _ _ _ _ refl refl _ c.is_bent.ensures c.if-is_bent.false
