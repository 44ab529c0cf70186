-- `clue_desk::add_box` meets its contract: the row is the record of the arguments.
use mathlib.Core.Path.{ap, ◌∙◌}
use mir.ValLaws.{to_z-of_z}
use mir.Syntax.{w32}
use Rattle.fixed.specs.Up.{up}
use Rattle.clue_desk.proofs.Called.{as_called, box-call}
use Rattle.clue_desk.proofs.add_box.Goals as goal

pub returns : goal.returns
returns c =
    let both = as_called _ _ _ _ _ (box-call _ _ _ _ _ _ _ _ _ (c.up.ensures ∙ ap up (to_z-of_z w32 _ c.ranges.x0)) (c.up-2.ensures ∙ ap up (to_z-of_z w32 _ c.ranges.y0))
    (c.up-3.ensures ∙ ap up (to_z-of_z w32 _ c.ranges.x1)) (c.up-4.ensures ∙ ap up (to_z-of_z w32 _ c.ranges.y1))) (c.add.ensures.value, c.add.ensures.desk_after) in
    record { value = both.0; desk_value = both.1 }
