-- `clue_desk::add_port` meets its contract: the row is the record of the arguments.
use mathlib.Core.Path.{ap, ◌∙◌}
use mir.ValLaws.{to_z-of_z}
use mir.Syntax.{w32}
use Rattle.fixed.specs.Up.{up}
use Rattle.book.specs.declared.Kind.{Kind}
use Rattle.clue_desk.proofs.Called.{as_called, point-call}
use Rattle.clue_desk.proofs.add_port.Goals as goal

pub returns : goal.returns
returns c =
    let both = as_called _ _ _ _ _ (point-call Kind.Port _ _ _ _ _ _ (c.up.ensures ∙ ap up (to_z-of_z w32 _ c.ranges.x)) (c.up-2.ensures ∙ ap up (to_z-of_z w32 _ c.ranges.y)))
    (c.add.ensures.value, c.add.ensures.desk_after) in
    record { value = both.0; desk_value = both.1 }
