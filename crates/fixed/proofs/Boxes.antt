-- The edges of a list of boxes on an axis.
--     leasts-at, greatests-at            that of one box
--     length-leasts, length-greatests    as many as there are boxes
use mathlib.Core.Path.{◌≡◌}
use mathlib.Core.List.{List}
use Prim.Native.Nat.{ℕ, ◌<◌}
use lib.ListN.{length, get_or, length-map}
use Rattle.std.proofs.lemmas.List.{get_or-map}
use Rattle.fixed.specs.declared.PaddedBox.{PaddedBox}
use Rattle.fixed.specs.declared.Axis.{Axis}
use Rattle.fixed.specs.declared.Axis.TheVariants.{X, Y}
use Rattle.fixed.specs.Boxes.{least, greatest, leasts, greatests}

-- what a read beyond the list gives
abbrev pub no_box : PaddedBox
no_box = record { min_x = 0; min_y = 0; max_x = 0; max_y = 0 }

module _ (bs : List PaddedBox) where
  pub leasts-at : (a : Axis) (i : ℕ) (d : PaddedBox) → i < length bs → get_or (leasts a bs) i 0 ≡ least a (get_or bs i d)
  leasts-at X i d h = get_or-map (λ (b : PaddedBox). b.min_x) bs i d 0 h
  leasts-at Y i d h = get_or-map (λ (b : PaddedBox). b.min_y) bs i d 0 h

  pub greatests-at : (a : Axis) (i : ℕ) (d : PaddedBox) → i < length bs → get_or (greatests a bs) i 0 ≡ greatest a (get_or bs i d)
  greatests-at X i d h = get_or-map (λ (b : PaddedBox). b.max_x) bs i d 0 h
  greatests-at Y i d h = get_or-map (λ (b : PaddedBox). b.max_y) bs i d 0 h

  pub length-leasts : (a : Axis) → length (leasts a bs) ≡ length bs
  length-leasts X = length-map bs (λ (b : PaddedBox). b.min_x)
  length-leasts Y = length-map bs (λ (b : PaddedBox). b.min_y)

  pub length-greatests : (a : Axis) → length (greatests a bs) ≡ length bs
  length-greatests X = length-map bs (λ (b : PaddedBox). b.max_x)
  length-greatests Y = length-map bs (λ (b : PaddedBox). b.max_y)
