-- `desk::take_latest` meets its contract. The entry is copied, taken off, and undone on the block now.
use borrow.Author.Rules.{rules}
use Rattle.rows.specs.Rows.{part}
use Rattle.desk.specs.Desk.{block, latest}
use Rattle.desk.proofs.Whole
use Rattle.desk.proofs.take_latest.Goals as goal

pub take_entry-requires : goal.take_entry-requires
unfolding block part latest
take_entry-requires c = (
  Whole.block-now c.args.desk.now _ _ c.requires.sound c.requires.nonzero c.unlay.ensures c.copy_from_slice.ensures.after,
  Whole.lists-now c.args.desk.now _ _ c.requires.sound c.requires.nonzero c.unlay.ensures c.copy_from_slice.ensures.after,
  search rules,
)

pub returns : goal.returns
unfolding block part latest
returns c =
    Whole.latest-taken c.args.desk.now _ _ c.requires.sound c.requires.nonzero c.unlay.ensures c.copy_from_slice.ensures.after
    _ _ (c.take_entry.ensures.value, c.take_entry.ensures.blk_after)
