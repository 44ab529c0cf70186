-- `desk::take_entry` meets its contract. The entry's first word tells what it undoes.
use mathlib.Core.Bool.{true≢false}
use mathlib.Core.Path.{sym}
use native.Mathlib.Omega.{arith}
use Rattle.block.specs.Block.{lists_of}
use Rattle.desk.specs.Desk.{entry_of}
use Rattle.desk.proofs.Words
use Rattle.desk.proofs.take_entry.Goals as goal

pub returns-in-Ok : goal.returns-in-Ok
returns-in-Ok c =
    let both = Words.of_entry (entry_of _) _ (lists_of _) _ _ _ (Words.as-out c.args.entry.now c.in-Ok.kind c.in-Ok.ensures)
    (c.take_out.ensures.value, c.take_out.ensures.blk_after) in
    record { value = both.0; blk_after = both.1 }

pub returns-in-Ok-try_from : goal.returns-in-Ok-try_from
returns-in-Ok-try_from c =
    let both = Words.of_entry (entry_of _) _ (lists_of _) _ _ _
    (Words.as-back c.args.entry.now c.in-Ok-try_from.kind c.in_default.ensures.1 c.in-Ok-try_from.ensures _ (omega (arith, c.width.ensures)))
    (c.put_back.ensures.value, c.put_back.ensures.blk_after) in
    record { value = both.0; blk_after = both.1 }

pub returns : goal.returns
returns c = record {
  value = Words.no-entry (entry_of _) (lists_of _) (Words.as_none _ c.in_default.ensures.1 c.in_default-try_from.ensures.1);
  blk_after = λ z. absurd (true≢false (sym z));
}
