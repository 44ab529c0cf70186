-- A run of the one cell k is put behind the others.
use Rattle.std.proofs.Common.{refl, arith}
use Rattle.corridors.proofs.Rows.{begun}
use Rattle.corridors.proofs.row.Row.add_cell.Goals as goal
use Rattle.corridors.proofs.row.Row.add_cell.Goals.{then-self-gt0+else-last-k, else-self-gt0}

pub returns : goal.returns
returns c =
    elim c.if-self-gt0.branch [ then-self-gt0+else-last-k w ↦ begun c.args.self.now.runs c.args.self.now.count c.args.k w.index-self-self.result c.args.self.now.few (omega arith) (λ h. w.if-last-k.false) _ refl | else-self-gt0 w ↦ begun c.args.self.now.runs c.args.self.now.count c.args.k c.index-self-self-2.result c.args.self.now.few (omega arith) (λ h. absurd (omega arith)) _ refl ]
