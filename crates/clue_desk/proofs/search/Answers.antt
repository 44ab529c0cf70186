use mir.ValLaws.{to_z-of_z}
use mir.Syntax.{w32}
use Rattle.std.proofs.Common.{◌∙◌, ap, rules}
use Rattle.fixed.specs.Up.{up}
use Rattle.clue_desk.proofs.Called.{search-called}
use Rattle.clue_desk.proofs.search.Goals as goal

pub returns-clause-value : goal.returns-clause-value
returns-clause-value c =
    (search-called c.args.desk.now _ _ _ _ _ _ _ _ _ _ (c.up.ensures ∙ ap up (to_z-of_z w32 _ c.ranges.x)) (c.up-2.ensures ∙ ap up (to_z-of_z w32 _ c.ranges.y)) (c.search.ensures.value, c.search.ensures.output_after)).0

pub returns-clause-dirs_value : goal.returns-clause-dirs_value
returns-clause-dirs_value c =
    let e = search-called c.args.desk.now _ _ _ _ _ _ _ _ _ _ (c.up.ensures ∙ ap up (to_z-of_z w32 _ c.ranges.x)) (c.up-2.ensures ∙ ap up (to_z-of_z w32 _ c.ranges.y)) (c.search.ensures.value, c.search.ensures.output_after) in
    let k = c.search.ensures.kept in
    search (rules, e.1, k.same_x, k.same_y, k.same_kinds, k.same_directions)
