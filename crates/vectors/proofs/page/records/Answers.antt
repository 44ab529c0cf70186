-- The desk was found valid.
use Rattle.std.proofs.Common.{refl}
use Rattle.desk.proofs.Whole.{sound-ok}
use Rattle.vectors.proofs.Selected.{asked-of}
use Rattle.vectors.proofs.page.records.Goals as goal

pub records-requires-clause-desk_value : goal.records-requires-clause-desk_value
records-requires-clause-desk_value c = (sound-ok c.in-Ok.ensures).book

pub returns-in-Ok : goal.returns-in-Ok
returns-in-Ok c = asked-of _ _ c.records.ensures (sound-ok c.in-Ok.ensures).book
