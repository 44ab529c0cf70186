use Rattle.std.proofs.Common.{◌≡◌, [], arith}
use Rattle.std.proofs.lemmas.List.{get_or_read}
use Rattle.anchors.specs.Explicit.{ignored}
use Rattle.anchors.proofs.Columns.{keys-begin, keys_on, keys-asks}
use Rattle.anchors.proofs.with_keys.Goals as goal
use Rattle.anchors.proofs.with_keys.Goals.{then-ends, else-ends}

pub loop-i-init : goal.loop-i-init
loop-i-init g c = record { laid = keys-begin _ _ _ _ _ _; inside = c.requires.n_bound }

pub with_key-count-requires-clause-room : goal.with_key-count-requires-clause-room
unfolding ignored
with_key-count-requires-clause-room g c =
    let b : c.if-ends.ignored ≡ ignored c.args.ends c.loop-i.i = elim c.if-ends.branch [ then-ends w ↦ rw w.if-ends.true w.ignored-is | else-ends w ↦ rw w.if-ends.false w.ignored-is ] in
    rw c.loop-i.auto.out (keys-asks _ _ _ _ _ _ _ _ _ c.as_chunks.ensures.front (omega arith) c.requires.few.0 _ c.loop-i.invariant.laid _ (get_or_read c.as_chunks.result.0.now c.loop-i.i _ (omega arith) c.index-parts-i.is []) _ b _ c.requires.room)

pub loop-i-preserved : goal.loop-i-preserved
unfolding ignored
loop-i-preserved g c =
    let b : c.if-ends.ignored ≡ ignored c.args.ends c.loop-i.i = elim c.if-ends.branch [ then-ends w ↦ rw w.if-ends.true w.ignored-is | else-ends w ↦ rw w.if-ends.false w.ignored-is ] in
    record { laid = keys_on _ _ _ _ _ _ _ _ _ c.as_chunks.ensures.front (omega arith) c.requires.few.0 _ c.loop-i.invariant.laid _ (get_or_read c.as_chunks.result.0.now c.loop-i.i _ (omega arith) c.index-parts-i.is []) _ b _ c.with_key-count.ensures.out_value; inside = omega (arith, c.with_key-count.ensures.upper_bound) }
