-- `page_listing::print_laid` meets its contract. The rows are words of 32 bits, since they are lent so.
use mathlib.Core.Path.{◌≡◌, ap}
use mathlib.Core.Bool.{true}
use mathlib.Core.List.{List}
use Prim.Native.Nat.{ℕ}
use native.Mathlib.Omega.{arith}
use lib.ListN.{length}
use Rattle.book.specs.declared.Kind.{Kind}
use Rattle.book.specs.Book.{valid}
use Rattle.book.proofs.Keeps.{lists-ok}
use Rattle.desk.specs.Desk.{book_of}
use Rattle.select.specs.Page.{flat}
use Rattle.select.proofs.Listed.{length-flat}
use Rattle.select.proofs.Ok.{nets}
use Rattle.page_listing.proofs.Laid.{listing-asks, listing-put}
use Rattle.page_listing.proofs.print_laid.Goals as goal

-- there are as many ids as nets
many : (ws : List ℕ) → valid (book_of ws) ≡ true → (ids : List ℕ) → ids ≡ flat (book_of ws).lists.nets → length ids ≡ length (book_of ws).lists.nets
many ws v ids e = let n = length-flat Kind.Net (nets (book_of ws).lists (lists-ok (book_of ws) v)) in omega (arith, ap length e, n)

pub write_listing-requires : goal.write_listing-requires
write_listing-requires c =
    let e = c.rows_of.ensures in
    let n = many c.args.desk.now c.requires.desk_value _ e in
    let both = listing-asks c.args.desk.now c.requires.desk_value c.args.nets.now c.args.x.now c.args.y.now c.args.kinds.now c.args.joins.now _ _ e n _ c.requires.fits (λ i. omega (arith, c.shared_slice_known-2-1.given i)) (λ i. omega (arith, c.shared_slice_known-4-1.given i)) c.requires.in_bounds_2 in
    record { n_in_bounds = both.0; n_bound = both.1 }

pub returns : goal.returns
returns c =
    let e = c.rows_of.ensures in
    let n = many c.args.desk.now c.requires.desk_value _ e in
    record { put = listing-put c.args.desk.now c.requires.desk_value c.args.nets.now c.args.x.now c.args.y.now c.args.kinds.now c.args.joins.now _ _ e n _ _ _ c.write_listing.ensures.put; first = c.write_listing.ensures.first }
