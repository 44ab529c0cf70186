-- `clue_desk::add_net` meets its contract: the row is the record of the argument.
use Rattle.clue_desk.proofs.Called.{as_called, net-call}
use Rattle.clue_desk.proofs.add_net.Goals as goal

pub returns : goal.returns
returns c =
    let both = as_called _ _ c.args.desk.now _ _ (net-call _) (c.add.ensures.value, c.add.ensures.desk_after) in
    record { value = both.0; desk_value = both.1 }
