use Rattle.std.proofs.Common.{◌≡◌, [], get_or, sym, ◌∙◌, rules, arith}
use Rattle.anchors.specs.Explicit.{ways}
use Rattle.anchors.proofs.Columns.{key-begin, key-inside, key-taken, key-left}
use Rattle.anchors.proofs.with_key.Goals as goal
use Rattle.anchors.proofs.with_key.Goals.{then-takes, then-ends, else-ends, else-takes}

pub loop-row-init : goal.loop-row-init
loop-row-init c = record { laid = key-begin _ _ _ _ _; inside = c.requires.n_bound }

pub bounds-out-count : goal.bounds-out-count
bounds-out-count c =
    key-inside _ _ _ _ _ _ _ _ c.as_chunks.ensures.front (omega arith) _ _ c.loop-row.invariant.laid c.loop-row.invariant.inside (sym c.takes.ensures ∙ c.if-takes.true) (rw c.loop-row.auto.out c.requires.room)

pub loop-row-preserved : goal.loop-row-preserved
unfolding ways
loop-row-preserved c =
    elim c.if-takes.branch [
      | then-takes w ↦
          let t = sym c.takes.ensures ∙ w.if-takes.true in
          let i = key-inside _ _ _ _ _ _ _ _ c.as_chunks.ensures.front (omega arith) _ _ c.loop-row.invariant.laid c.loop-row.invariant.inside t (rw c.loop-row.auto.out c.requires.room) in
          let d : w.if-ends.directions ≡ ways c.args.ends (get_or (get_or c.as_chunks.result.0.now c.loop-row.row-index []) 3 0)
          = elim w.if-ends.branch [ then-ends w' ↦ rw w'.if-ends.true w'.directions-is | else-ends w' ↦ rw w'.if-ends.false w'.directions-is ] in
          record { laid = rw (w.count-is, w.out-is) (key-taken _ _ _ _ _ _ _ _ c.as_chunks.ensures.front (omega arith) _ _ c.loop-row.invariant.laid _ i t d); inside = omega (arith, i) }
      | else-takes w ↦
          record { laid = rw (w.count-is, w.out-is) (key-left _ _ _ _ _ _ _ _ c.as_chunks.ensures.front (omega arith) _ _ c.loop-row.invariant.laid (sym c.takes.ensures ∙ w.if-takes.false)); inside = search rules }
    ]
