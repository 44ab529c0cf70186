-- `block::ok_list` meets its contract. Each row is tested.
use mathlib.Core.Path.{◌∙◌}
use Prim.Native.Nat.{◌≤◌}
use native.Mathlib.Omega.{arith}
use Rattle.std.proofs.Common.{rules, tests}
use Rattle.std.proofs.lemmas.Iterator.Search.{all_from_yields_List}
use Rattle.rows.specs.Rows.{count}
use Rattle.rows.proofs.Chunks.{YieldsList-from_rows}
use Rattle.book.specs.Book.{ok_fields, most}
use Rattle.block.specs.Block.{area}
use Rattle.block.proofs.Blocks
use Rattle.block.proofs.Fits
use Rattle.block.proofs.ok_list.Goals as goal

pub returns : goal.returns
returns c =
    let k = c.args.kind in
    let blk = c.args.blk.now in
    let few : count (area k blk) ≤ most k = omega (arith, c.records-n.ensures, c.most.ensures, c.if-most-n.false) in
    let chunks = c.chunks_exact.ensures in
    let rest = chunks.rest ∙ Fits.rows_lent k blk _ _ _ c.records-n.ensures c.width-w.ensures c.area.ensures in
    let yields = YieldsList-from_rows _ _ _ (Blocks.wide_enough k) (chunks.size ∙ c.width-w.ensures) rest (Fits.rows_long k blk c.requires few) in
    Fits.list_here k blk _ c.requires few (all_from_yields_List (ok_fields k) _ _ _ c.all.ensures.ran yields (λ x b q h. search (rules, tests)))
