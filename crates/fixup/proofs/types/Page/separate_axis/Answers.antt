-- Each key names a pair of the page, and its track is the definition's and has a mark.
use Rattle.std.proofs.Common.{◌≡◌, length, take, arith, rules}
use Rattle.fixup.proofs.Moves.{moves-none, moves_more}
use Rattle.fixup.proofs.Axis.{track-is, track_small, axis-done}
use Rattle.fixup.proofs.types.Page.separate_axis.Goals as goal

pub loop-k-init : goal.loop-k-init
loop-k-init c = moves-none _ _ _ _ _ _

pub move_key-requires-clause-key_ok : goal.move_key-requires-clause-key_ok
move_key-requires-clause-key_ok c =
    let P = c.args.corridors.now in
    let long : length (take P.count P.keys) ≡ P.count = search rules in
    (rw c.key.ensures (c.requires.listed.keyed.each c.loop-k.k (omega arith)), track_small _ P.count P.few _ c.assign_tracks.ensures c.loop-k.k c.loop-k-test.true)

pub loop-k-preserved : goal.loop-k-preserved
loop-k-preserved c =
    let P = c.args.corridors.now in
    moves_more _ _ _ _ _ _ _ _ _ c.loop-k.invariant _ _ c.key.ensures (track-is _ P.count P.few _ c.assign_tracks.ensures c.loop-k.k c.loop-k-test.true) c.move_key.ensures

pub returns : goal.returns
returns c =
    let P = c.args.corridors.now in
    axis-done _ _ _ _ P.count _ _ _ (search rules) (omega arith) c.loop-k.invariant
