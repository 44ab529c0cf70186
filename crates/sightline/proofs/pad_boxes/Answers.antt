-- One box more.
use Rattle.std.proofs.Common.{refl, sym, arith}
use Rattle.fixed.specs.declared.PaddedBox.{PaddedBox}
use Rattle.sightline.specs.Boxes.{padded}
use Rattle.sightline.proofs.Padding.{edges-none, edges_more}
use Rattle.sightline.proofs.pad_boxes.Goals as goal

pub loop-i-init : goal.loop-i-init
loop-i-init c =
    record { min_x = sym (edges-none _ _ _ _); min_y = sym (edges-none _ _ _ _); max_x = sym (edges-none _ _ _ _); max_y = sym (edges-none _ _ _ _) }

pub loop-i-preserved : goal.loop-i-preserved
unfolding padded
loop-i-preserved c = record {
  min_x = edges_more _ _ _ _ (λ (b : PaddedBox). b.min_x) _ _ _ (omega arith) c.loop-i.invariant.min_x refl;
  min_y = edges_more _ _ _ _ (λ (b : PaddedBox). b.min_y) _ _ _ (omega arith) c.loop-i.invariant.min_y refl;
  max_x = edges_more _ _ _ _ (λ (b : PaddedBox). b.max_x) _ _ _ (omega arith) c.loop-i.invariant.max_x refl;
  max_y = edges_more _ _ _ _ (λ (b : PaddedBox). b.max_y) _ _ _ (omega arith) c.loop-i.invariant.max_y refl;
}
