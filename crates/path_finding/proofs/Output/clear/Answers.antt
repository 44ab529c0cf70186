use Rattle.std.proofs.Common.{rules}
use Rattle.zeros.proofs.Zeroed.{steps-zero}
use Rattle.path_finding.proofs.Output.clear.Goals as goal

pub returns-clause-cleared : goal.returns-clause-cleared
returns-clause-cleared c =
    record { no_x = steps-zero _ _ c.zero_steps.ensures; no_y = steps-zero _ _ c.zero_steps-2.ensures; no_kind = search rules; no_direction = search rules }
