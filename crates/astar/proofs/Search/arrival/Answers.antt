use Rattle.astar.proofs.Laws.{arrives-none, arrives-by}
use Rattle.astar.proofs.Search.arrival.Goals as goal

pub returns-in_err-p : goal.returns-in_err-p
returns-in_err-p c = rw c.from_residual.ensures (arrives-none _ _ _ c.in_err-p.ensures)

pub returns : goal.returns
returns c = rw (arrives-by _ _ _ _ c.in_ok-p.ensures) c.dir_to.ensures
