-- Wires that keep their lent lists.
use Rattle.std.proofs.Common.{refl, ◌∙◌}
use Rattle.wire.specs.declared.types.Wires.{Wires}
use Rattle.wire.specs.Lent.{KeptWires}

pub wires-refl : {v : Wires} → KeptWires v v
wires-refl = record { same_x = refl; same_y = refl; same_letters = refl; same_ends = refl; long_ends = refl }

pub wires_trans : {u v w : Wires} → KeptWires u v → KeptWires v w → KeptWires u w
wires_trans a b =
    record { same_x = b.same_x ∙ a.same_x; same_y = b.same_y ∙ a.same_y; same_letters = b.same_letters ∙ a.same_letters; same_ends = b.same_ends ∙ a.same_ends; long_ends = b.long_ends ∙ a.long_ends }
