use native.Mathlib.Omega.{arith}
use Rattle.std.proofs.Common.{refl, ◌∙◌, ◌≡◌, ◌*◌, ◌+◌}
use Rattle.path_finding.proofs.Laws.{table-begin}
use Rattle.wire.specs.Lent.{words}
use Rattle.wire.proofs.Words.{word-x, word-y}
use Rattle.net.proofs.Leaves.{ends_on}
use Rattle.net.proofs.Found.{all-ends, branch-path}
use Rattle.net.proofs.line_to_ends.Goals as goal

pub loop-i-init : goal.loop-i-init
loop-i-init g c = record { long_x = refl; long_y = refl; x_value = table-begin _; y_value = table-begin _ }

pub loop-i-preserved : goal.loop-i-preserved
loop-i-preserved g c =
    let l = c.loop-i in
    let es = c.args.wires.now.ends.now in
    let z : 4 * l.i + 0 ≡ 4 * l.i = omega arith in
    record {
      long_x = c.put.auto.xs ∙ l.invariant.long_x;
      long_y = c.put-in-loop-i.auto.xs ∙ l.invariant.long_y;
      x_value = ends_on 0 (words es) _ _ l.i _ l.invariant.x_value (omega arith) c.put.ensures (word-x _ es l.i (omega arith) ∙ rw z);
      y_value = ends_on 1 (words es) _ _ l.i _ l.invariant.y_value (omega arith) c.put-in-loop-i.ensures (word-y _ es l.i (omega arith));
    }

pub returns-clause-line : goal.returns-clause-line
returns-clause-line g c =
    let l = c.loop-i in
    let e : l.i ≡ c.args.wires.now.m = omega arith in
    branch-path _ _ _ _ _ _ _ _ (all-ends _ _ _ _ (rw e at l.invariant.x_value)) (all-ends _ _ _ _ (rw e at l.invariant.y_value)) c.line_to.ensures.line
