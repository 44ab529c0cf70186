-- `block::put_back` meets its contract. A record that could be added has room.
use mathlib.Core.Path.{sym, ◌∙◌}
use Rattle.block.proofs.Taken
use Rattle.block.proofs.put_back.Goals as goal

pub insert_record-requires-clause-room : goal.insert_record-requires-clause-room
insert_record-requires-clause-room c = Taken.back_room _ _ _ _ c.check_add.ensures (sym c.is_err.ensures.value ∙ c.if-is_err.false)
