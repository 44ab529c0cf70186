-- The marks are as many as the cells.
use Rattle.std.proofs.Common.{◌∙◌, arith}
use Rattle.std.proofs.lemmas.List.{length-take-le}
use Rattle.corridors.proofs.Filling.{rows-begin}
use Rattle.corridors.proofs.Grid.all_runs.Goals as goal

pub loop-i-init : goal.loop-i-init
loop-i-init c = (length-take-le c.saturating_sub.result _ (omega arith) ∙ c.saturating_sub.ensures, rows-begin _ _ _ c.args.rows.now)
