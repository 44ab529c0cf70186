-- The offset of a track is small against a coordinate.
use Rattle.std.proofs.Common.{◌≡◌, rules}
use Rattle.fixup.proofs.Moves.{shift_fits}
use mir.Syntax.{w32}
use mir.Val.{to_z, of_z}
use Rattle.fixup.proofs.types.Page.move_key.Goals as goal

pub moved-c-requires : goal.moved-c-requires
moved-c-requires c =
    let back : to_z w32 (of_z w32 c.track_offset.result) ≡ c.track_offset.result = search rules in
    let ok = c.requires.key_ok in
    rw (back, c.track_offset.ensures) (shift_fits _ _ ok.1 ok.0.low ok.0.high)
