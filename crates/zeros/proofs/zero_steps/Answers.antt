-- From `from` to before i all is zero, and before that as it was.
use Rattle.std.proofs.Common.{◌∙◌, sym, arith}
use lib.Seq.{get_or-set_other}
use Rattle.fixed.specs.Up.{ups}
use Rattle.fixed.proofs.Lists.{length-ups}
use Rattle.zeros.proofs.Zeroed.{closed-by, zero-more}
use Rattle.zeros.proofs.zero_steps.Goals as goal

pub loop-i-preserved : goal.loop-i-preserved
loop-i-preserved c =
    let v = c.loop-i.invariant in
    record {
      on = omega arith;
      long = c.put.auto.xs ∙ v.long;
      low = λ j h. rw c.put.ensures (get_or-set_other (ups c.loop-i.list) c.loop-i.i j _ 0 (λ q. omega arith) ∙ v.low j h);
      high = rw c.put.ensures (zero-more _ (ups c.loop-i.list) c.args.from c.loop-i.i (omega (arith, length-ups c.loop-i.list)) v.high);
    }

pub returns : goal.returns
returns c =
    let v = c.loop-i.invariant in
    closed-by _ (ups c.args.list.now) (ups c.loop-i.list) c.args.from (omega (arith, length-ups c.args.list.now)) (length-ups c.loop-i.list ∙ v.long ∙ sym (length-ups c.args.list.now)) v.low (λ j a b. v.high j a (omega (arith, length-ups c.args.list.now)))
