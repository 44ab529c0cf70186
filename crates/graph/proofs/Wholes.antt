-- The axis lists of the anchors: one more anchor, and they rise.
use mathlib.Core.Path.{◌≡◌}
use mathlib.Core.List.{List, map}
use Prim.Native.Nat.{ℕ, ◌+◌, ◌<◌, ◌≤◌}
use native.Mathlib.Numerals.{add-one}
use native.Mathlib.Omega.{arith}
use lib.ListN.{length, get_or}
use Rattle.std.proofs.lemmas.List.{get_or-map}
use Rattle.fixed.specs.declared.Anchor.{Anchor}
use Rattle.sightline.specs.Sight.{Rising}
use Rattle.axis.specs.Axis.{axis, insert, inserts}
use Rattle.axis.proofs.Axis.{axis-sorted}
use Rattle.axis.proofs.Small.{Same, same?, yes, no}

pub axis-rising : (cs : List ℕ) (n : ℕ) → Rising (axis cs n)
axis-rising cs n = record { rising = λ j k h lt. by j k h lt (same? j k) }
  where
    by : (j k : ℕ) → j ≤ k → k < length (axis cs n) → Same j k → get_or (axis cs n) j 0 ≤ get_or (axis cs n) k 0
    by j k h lt (yes e) = rw e (omega arith)
    by j k h lt (no m) = omega (arith, (axis-sorted cs n).rising.strict j k (omega arith) lt)

-- the coordinate of one more anchor
pub axis-more : (f : Anchor → ℕ) (l : List Anchor) (k : ℕ) (d : Anchor) (u v : List ℕ) → k < length l → v ≡ axis (map f l) k → u ≡ insert (f (get_or l k d)) v → u ≡ axis (map f l) (k + 1)
unfolding inserts
axis-more f l k d u v h e q = rw (add-one k, get_or-map f l k d 0 h, ← e) q
