-- What is left to do from the run j on gives what the whole row gives; the row itself is not changed by its own runs.
use Rattle.std.proofs.Common.{length, take, get_or, [], ap, ◌∙◌, arith}
use Rattle.fixed.specs.Up.{ups}
use Rattle.corridors.specs.Merge.{Plan}
use Rattle.corridors.specs.Lent.{run, plan}
use Rattle.corridors.proofs.Rows.{runs-count, run_in}
use Rattle.corridors.proofs.Laying.{corridor-laid, corridor-full, corridor-keeps, corridor-grows, going-on, going-full, going-end, row-of}
use Rattle.corridors.proofs.Grid.row_corridors.Goals as goal

pub returns-in_err-made : goal.returns-in_err-made
returns-in_err-made c =
    rw c.from_residual.ensures (rw (row-of (ups c.args.self.now.xs.now) (ups c.args.self.now.ys.now) (length c.args.rows.now) c.args.i (length c.runs-j-end.result.now) (plan c.args.self.now.along c.args.rows.now (take c.args.begin c.args.anchors.now)) (runs-count c.args.rows.now c.args.i c.index-rows-i.result (omega arith) c.runs-j-end.result.now c.runs-j-end.ensures)) at (going-full c.loop-j.invariant.0 (corridor-grows _ _ _ _) (omega arith) (corridor-full c.args.self.now.along (ups c.args.self.now.xs.now) (ups c.args.self.now.ys.now) (length c.args.rows.now) c.args.i c.loop-j.j c.loop-j.made c.loop-j.rows c.loop-j.anchors (omega (arith, c.loop-j.invariant.0.most)) c.in_err-made.ensures)))

pub loop-j-preserved : goal.loop-j-preserved
loop-j-preserved c =
    let same = runs-count c.args.rows.now c.args.i c.index-rows-i.result (omega arith) c.runs-j-end.result.now c.runs-j-end.ensures in
    let here = runs-count c.loop-j.rows c.args.i c.index-rows-i-in-loop-j.result (omega arith) c.runs.result.now c.runs.ensures in
    let put = corridor-laid c.args.self.now.along (ups c.args.self.now.xs.now) (ups c.args.self.now.ys.now) (length c.args.rows.now) c.args.i c.loop-j.j c.take_out-top.result c.loop-j.rows c.take_out-top.new.rows c.loop-j.made c.loop-j.anchors c.yields.new.anchors c.index-runs-j.result (ap run c.index-runs-j.is ∙ run_in c.loop-j.rows c.args.i c.index-rows-i-in-loop-j.result (omega arith) c.runs.result.now c.runs.ensures c.loop-j.j c.index-runs-j.result (omega (arith, here, same, ap length c.loop-j.invariant.1))) (rw c.loop-j.auto.rows at c.take_out-top.ensures) c.in_ok-made.made c.in_ok-made.ensures in
    (going-on c.loop-j.invariant.0 (omega arith) c.in_ok-made.made c.yields.new.anchors c.take_out-top.new.rows put, ap (λ (p : Plan). get_or p.rows c.args.i []) put.same ∙ corridor-keeps _ _ _ _ _ _ ∙ c.loop-j.invariant.1)

pub returns : goal.returns
returns c =
    rw (row-of (ups c.args.self.now.xs.now) (ups c.args.self.now.ys.now) (length c.args.rows.now) c.args.i (length c.runs-j-end.result.now) (plan c.args.self.now.along c.args.rows.now (take c.args.begin c.args.anchors.now)) (runs-count c.args.rows.now c.args.i c.index-rows-i.result (omega arith) c.runs-j-end.result.now c.runs-j-end.ensures)) at (going-end c.loop-j.invariant.0 (omega arith))
