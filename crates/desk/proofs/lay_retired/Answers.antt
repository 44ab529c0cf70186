-- `desk::lay_retired` meets its contract. The record's row is copied behind its kind and place.
use mathlib.Core.Path.{refl}
use Prim.Native.Nat.{◌+◌, ◌-◌, ◌*◌}
use lib.ListN.{length, take, drop, set, replicate}
use native.Mathlib.Omega.{arith}
use Rattle.std.proofs.lemmas.Slice.{put_mid-paste}
use Rattle.desk.specs.Sizes.{ENTRY}
use Rattle.desk.specs.Desk.{KINDS}
use Rattle.rows.specs.Rows.{pasted}
use Rattle.desk.proofs.Whole
use Rattle.desk.proofs.lay_retired.Goals as goal

pub returns : goal.returns
unfolding pasted
returns c =
    let w = c.width-w.result in
    let n = 2 + c.area_at.result + c.args.i * w + w - (2 + c.area_at.result + c.args.i * w) in
    let row = take n (drop (2 + c.area_at.result + c.args.i * w) c.args.desk.now) in
    let base = set (set (replicate ENTRY 0) 0 (KINDS + c.from.result)) 1 c.args.i in
    let fits = Whole.row_fits _ c.requires.in_bounds c.requires.counted _ _ c.requires.i_bound _ _ c.width-w.ensures c.area_at.ensures n refl in
    Whole.laid-back _ c.requires.in_bounds c.requires.counted _ _ c.requires.i_bound _ _ c.width-w.ensures c.area_at.ensures n refl
    _ _ _ _ c.from.ensures refl (put_mid-paste 2 (2 + w - 2) base _ row (length row) c.copy_from_slice.ensures.after (omega (arith, fits, c.width-w.ensures)) refl) c.lay.ensures
