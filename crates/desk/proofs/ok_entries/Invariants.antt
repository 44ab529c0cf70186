-- `desk::ok_entries` meets its contract. What the scan over the entries says of all it says of those left, on the block that the others left.
use mathlib.Core.Bool.{true}
use mathlib.Core.List.{map}
use mathlib.Core.Path.{◌≡◌}
use lib.ListN.{length, drop}
use Rattle.block.specs.Block.{lists_of}
use Rattle.desk.specs.Desk.{entry_of}
use Rattle.book.specs.Entries.{copies}
use Rattle.book.specs.Book.{ok_copy, ok_lists}
use Rattle.block.specs.Sizes.{BLOCK}
use Rattle.desk.specs.Sizes.{ENTRY}
use Rattle.rows.specs.Rows.{scan, rows}
use Rattle.desk.proofs.Valid
use Rattle.desk.proofs.ok_entries.Given as goal

abbrev pub invariant-loop-k : goal.invariant-loop-k
invariant-loop-k l = record {
  long : length l.blk ≡ BLOCK;
  ok : ok_lists (lists_of l.blk) ≡ true;
  left : scan ok_copy (copies (map entry_of (rows ENTRY l.depth l.pile)) (lists_of l.initial.blk))
      ≡ scan ok_copy (copies (drop l.k (Valid.entries_in l.depth l.pile)) (lists_of l.blk));
}
