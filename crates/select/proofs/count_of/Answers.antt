-- The count stands first in the kind's area.
use Rattle.std.proofs.Common.{ℕ, ◌+◌, ap}
use Rattle.select.proofs.Flat.{count-desk}
use Rattle.select.proofs.count_of.Goals as goal

pub returns : goal.returns
returns c = count-desk c.args.kind c.args.desk.now _ (ap (λ (a : ℕ). 1 + a) c.area_at.ensures)
