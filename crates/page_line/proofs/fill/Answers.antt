use Rattle.std.proofs.Common.{ap, ◌∙◌, arith}
use lib.Seq.{take_all}
use Rattle.decimals.specs.Write.{written}
use Rattle.decimals.proofs.Written.{written_none}
use Rattle.page_line.specs.Records.{sorts}
use Rattle.page_line.specs.declared.Sort.TheVariants.{Ident}
use Rattle.page_line.proofs.Rows as R
use Rattle.page_line.proofs.fill.Goals as goal

pub loop-i-init : goal.loop-i-init
loop-i-init c = written_none _ _ (omega arith)

pub loop-i-preserved : goal.loop-i-preserved
loop-i-preserved c =
    let l = R.row-length (sorts c.args.kind) c.args.vals.now c.requires.0 in
    let n = R.sorts-few c.args.kind in
    R.fill_on _ _ _ c.loop-i.i _ c.loop-i.invariant (omega arith) (omega arith) (rw (R.row_at (sorts c.args.kind) c.args.vals.now c.loop-i.i Ident c.requires.0 (omega arith), ← c.sorts-sorts.ensures) c.word.ensures)

pub returns : goal.returns
returns c =
    let l = R.row-length (sorts c.args.kind) c.args.vals.now c.requires.0 in
    c.loop-i.invariant ∙ ap (written c.args.row.now 0) (take_all c.loop-i.i _ (omega arith))
