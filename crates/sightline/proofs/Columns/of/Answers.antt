-- One box more.
use Rattle.std.proofs.Common.{◌≡◌, length, refl, arith}
use Rattle.std.proofs.lemmas.List.{take_all, length-set}
use Rattle.fixed.specs.declared.PaddedBox.{PaddedBox}
use Rattle.sightline.proofs.Columned.{column-more}
use Rattle.sightline.proofs.Columns.of.Goals as goal

pub loop-i-init : goal.loop-i-init
loop-i-init c = record { long = (refl, refl, refl, refl); min_x = refl; min_y = refl; max_x = refl; max_y = refl }

pub loop-i-preserved : goal.loop-i-preserved
loop-i-preserved c = let l = c.loop-i.invariant.long in record {
  long = (rw length-set l.0, rw length-set l.1, rw length-set l.2, rw length-set l.3);
  min_x = column-more (λ (b : PaddedBox). b.min_x) _ _ _ _ (omega arith) (omega arith) c.loop-i.invariant.min_x;
  min_y = column-more (λ (b : PaddedBox). b.min_y) _ _ _ _ (omega arith) (omega arith) c.loop-i.invariant.min_y;
  max_x = column-more (λ (b : PaddedBox). b.max_x) _ _ _ _ (omega arith) (omega arith) c.loop-i.invariant.max_x;
  max_y = column-more (λ (b : PaddedBox). b.max_y) _ _ _ _ (omega arith) (omega arith) c.loop-i.invariant.max_y;
}

pub returns : goal.returns
returns c =
    let e : c.loop-i.i ≡ length c.args.boxes.now = omega arith in
    let all = take_all (length c.args.boxes.now) c.args.boxes.now (omega arith) in
    let i = c.loop-i.invariant in
    record { min_x = rw (e, all) at i.min_x; min_y = rw (e, all) at i.min_y; max_x = rw (e, all) at i.max_x; max_y = rw (e, all) at i.max_y; count = refl }
