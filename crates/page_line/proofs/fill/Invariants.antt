use Rattle.std.proofs.Common.{◌≡◌, take}
use Rattle.decimals.specs.Write.{written}
use Rattle.page_line.specs.Fields.{row_of}
use Rattle.page_line.specs.Records.{sorts}
use Rattle.page_line.proofs.fill.Given as goal

abbrev pub invariant-loop-i : goal.invariant-loop-i
invariant-loop-i l = l.row ≡ written l.initial.row 0 (take l.i (row_of (sorts l.fn.kind) l.vals))
