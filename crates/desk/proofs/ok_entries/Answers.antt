-- `desk::ok_entries` meets its contract. What the scan over the entries says of all it says of those left, on the block that the others left.
use Prim.Native.Nat.{◌-◌, ◌+◌, ◌*◌}
use native.Mathlib.Omega.{arith}
use Rattle.desk.specs.Sizes.{ENTRY}
use Rattle.desk.proofs.Valid
use Rattle.desk.proofs.ok_entries.Goals as goal

pub loop-k-init : goal.loop-k-init
loop-k-init c = record { long = c.requires.2; ok = c.requires.3; left = Valid.entries-start _ _ _ }

pub returns-then-not-take_entry : goal.returns-then-not-take_entry
returns-then-not-take_entry c =
    let k = c.loop-k.k in
    Valid.entry-fails _ _ k _ c.loop-k.blk c.loop-k.invariant.left (omega arith) (k * ENTRY + ENTRY - k * ENTRY) (omega arith) _
    c.take_entry.ensures.value c.if-not-take_entry.true

pub loop-k-preserved : goal.loop-k-preserved
loop-k-preserved c =
    let k = c.loop-k.k in
    let i = c.loop-k.invariant in
    let n = k * ENTRY + ENTRY - k * ENTRY in record {
      long = Valid.entry-long _ _ k _ c.loop-k.blk i.left (omega arith) n (omega arith) _
          c.take_entry.ensures.value c.if-not-take_entry.false i.long i.ok _ c.take_entry.ensures.blk_after;
      ok = Valid.entry-ok _ _ k _ c.loop-k.blk i.left (omega arith) n (omega arith) _
          c.take_entry.ensures.value c.if-not-take_entry.false i.long i.ok _ c.take_entry.ensures.blk_after;
      left = Valid.entry-passes _ _ k _ c.loop-k.blk i.left (omega arith) n (omega arith) _
          c.take_entry.ensures.value c.if-not-take_entry.false i.long i.ok _ c.take_entry.ensures.blk_after;
    }

pub returns : goal.returns
returns c = Valid.entries-done _ _ c.loop-k.k _ c.loop-k.blk c.loop-k.invariant.left (omega arith)
