-- Whether a block's rows fit: the rows of a list one by one, then the ids of two lists.
--     list_far, list_here                  a list past its limit, and one that keeps it
--     rows_lent, rows_long                 the words of its rows
--     apart_fail, apart_on                 the turns of the search for an id that is there twice
--     pair_is, lists_are                   the boxes with the ports, then the nets with the ends
use mathlib.Core.Path.{◌≡◌, refl, sym, ap, ◌∙◌}
use mathlib.Core.List.{List, [], ◌∷◌}
use mathlib.Core.Bool.{Bool, true, false, not, ◌&&◌}
use Prim.Native.Nat.{ℕ, zero, suc, ◌+◌, ◌-◌, ◌*◌, ◌≤◌, ◌<◌}
use native.Mathlib.Omega.{arith}
use lib.ListN.{length, get_or, take, drop, length-drop}
use lib.Seq.{take_all, take-take, length-take-le}
use lib.Dec.{leb}
use borrow.Author.Tests.{le-leb, lt-leb, leb-true, eq-eqb}
use Rattle.std.specs.List.{list_all}
use Rattle.fixed.proofs.Bools.{and_left}
use Rattle.rows.specs.Rows.{rows, records, key, ids, is_in, count, scan}
use Rattle.rows.proofs.Rows
use Rattle.block.specs.Sizes.{BLOCK}
use Rattle.book.specs.Book.{Record, width, most, ok_record, ok_fields, own, belongs, ok_owners, ok_members, ok_lists}
use Rattle.block.specs.Block.{area, list_of, lists_of, ok_list, apart}
use Rattle.book.specs.declared.Kind.{Kind}
use Rattle.book.proofs.Fields.{record_is}
use Rattle.block.proofs.Blocks

-- ---- a list
-- rows are as wide as their kind
rows_ok : (k : Kind) (n : ℕ) (ws : List ℕ) → n * width k ≤ length ws → list_all (ok_fields k) (rows (width k) n ws) ≡ list_all (ok_record k) (rows (width k) n ws)
unfolding rows
rows_ok k zero ws h = refl
rows_ok k (suc n) ws h =
    let w : width k ≤ length ws = omega (arith, Rows.suc-row n (width k)) in
    let l : length (take (width k) ws) ≡ width k = length-take-le (width k) ws w in
    let e : ok_record k (take (width k) ws) ≡ ok_fields k (take (width k) ws) = record_is k (take (width k) ws) ∙ rw (eq-eqb _ _ l) in
    rw (e, rows_ok k n (drop (width k) ws) (rw length-drop (omega (arith, Rows.suc-row n (width k)))))

module _ (k : Kind) (blk : List ℕ) where
  pub list_far : most k < count (area k blk) → false ≡ ok_list k (list_of k blk)
  unfolding ok_list
  list_far h = rw (Blocks.length-list k blk, lt-leb (count (area k blk)) (most k) h)

  pub list_few : ok_list k (list_of k blk) ≡ true → count (area k blk) ≤ most k
  unfolding ok_list
  list_few e =
      omega (arith, Blocks.length-list k blk, leb-true (length (list_of k blk)) (most k) (and_left (leb (length (list_of k blk)) (most k)) _ e))

  pub list_here : (r : Bool) → length blk ≡ BLOCK → count (area k blk) ≤ most k
      → r ≡ list_all (ok_fields k) (rows (width k) (count (area k blk)) (take (count (area k blk) * width k) (drop 1 (area k blk)))) → r ≡ ok_list k (list_of k blk)
  unfolding ok_list list_of records
  list_here r long h e =
      let n : ℕ = count (area k blk) in
      let ws : List ℕ = drop 1 (area k blk) in
      let l : n * width k ≤ length ws = rw length-drop (omega (arith, Blocks.area-long k blk long, Blocks.rows_in k n h)) in
      let t : rows (width k) n (take (n * width k) ws) ≡ rows (width k) n ws =
      Rows.rows-prefix (width k) n (take (n * width k) ws) ws (take-take (n * width k) (n * width k) ws (omega arith)) in
      e ∙ ap (list_all (ok_fields k)) t ∙ rows_ok k n ws l ∙ rw (Rows.length-rows (width k) n ws, le-leb n (most k) h)

  module _ (n w : ℕ) (xs : List ℕ) (en : n ≡ count (area k blk)) (ew : w ≡ width k) (ex : xs ≡ area k blk) where
    pub rows_lent : take (1 + n * w - 1) (drop 1 xs) ≡ take (count (area k blk) * width k) (drop 1 (area k blk))
    rows_lent = let e : 1 + n * w - 1 ≡ n * w = omega arith in rw (e, ex, en, ew)

  pub rows_long : length blk ≡ BLOCK → count (area k blk) ≤ most k
      → length (take (count (area k blk) * width k) (drop 1 (area k blk))) ≡ count (area k blk) * width k
  rows_long long h =
      length-take-le (count (area k blk) * width k) (drop 1 (area k blk)) (rw length-drop (omega (arith, Blocks.area-long k blk long, Blocks.rows_in k (count (area k blk)) h)))

-- ---- ids
module _ (L : List ℕ) (i : ℕ) (so_far : scan apart L ≡ scan apart (drop i L)) (h : i < length L) where
  split : drop i L ≡ get_or L i 0 ∷ drop (i + 1) L
  split = Rows.words-split L i h

  module _ (b : Bool) (is : b ≡ is_in (get_or L i 0) (take (length L - (i + 1)) (drop (i + 1) L))) where
    there : not b ≡ apart (get_or L i 0) (drop (i + 1) L)
    unfolding apart
    there = ap not (is ∙ ap (is_in (get_or L i 0)) (take_all (length L - (i + 1)) (drop (i + 1) L) (rw length-drop (omega arith))))

    pub apart_fail : b ≡ true → false ≡ scan apart L
    apart_fail e = Rows.fail apart L (get_or L i 0) i split so_far (sym there ∙ ap not e)

    pub apart_on : b ≡ false → scan apart L ≡ scan apart (drop (i + 1) L)
    apart_on e = Rows.pass apart L (get_or L i 0) i split so_far (sym there ∙ ap not e)

-- ---- a test of each row, and one of its id and the ids behind it
across : (a b c d : Bool) → (a && b) && (c && d) ≡ (a && c) && (b && d)
across false b c d = refl
across true true c d = refl
across true false true d = refl
across true false false d = refl

own_split : (k : Kind) (rs : List Record) → scan (own k) rs ≡ list_all (ok_record k) rs && scan apart (ids rs)
unfolding scan own apart
own_split k [] = refl
own_split k (r ∷ rs) = rw (own_split k rs) (across (ok_record k r) (not (is_in (key r) (ids rs))) (list_all (ok_record k) rs) (scan apart (ids rs)))

belongs_split : (k : Kind) (os rs : List Record) → scan (belongs k os) rs ≡ list_all (ok_record k) rs && list_all (λ (id : ℕ). is_in id (ids os)) (ids rs)
unfolding scan belongs
belongs_split k os [] = refl
belongs_split k os (r ∷ rs) =
    rw (belongs_split k os rs) (across (ok_record k r) (is_in (key r) (ids os)) (list_all (ok_record k) rs) (list_all (λ (id : ℕ). is_in id (ids os)) (ids rs)))

six : (l a d m b e : Bool) → (l && (a && d)) && (m && (b && e)) ≡ ((l && a) && (m && b)) && (d && e)
six false a d m b e = refl
six true false d m b e = refl
six true true true true b e = refl
six true true true false b e = refl
six true true false true true e = refl
six true true false true false e = refl
six true true false false b e = refl

pub pair_is : (o k : Kind) (os rs : List Record) → ok_owners o os && ok_members k os rs
    ≡ (ok_list o os && ok_list k rs) && (scan apart (ids os) && list_all (λ (id : ℕ). is_in id (ids os)) (ids rs))
unfolding ok_owners ok_members ok_list
pair_is o k os rs = rw (own_split o os, belongs_split k os rs)
    (six (leb (length os) (most o)) (list_all (ok_record o) os) (scan apart (ids os)) (leb (length rs) (most k)) (list_all (ok_record k) rs)
    (list_all (λ (id : ℕ). is_in id (ids os)) (ids rs)))

pub lists_are : (blk : List ℕ) → ok_lists (lists_of blk)
    ≡ (ok_owners Kind.Box (list_of Kind.Box blk) && ok_members Kind.Port (list_of Kind.Box blk) (list_of Kind.Port blk))
    && (ok_owners Kind.Net (list_of Kind.Net blk) && ok_members Kind.End (list_of Kind.Net blk) (list_of Kind.End blk))
unfolding ok_lists lists_of
lists_are blk =
    across (ok_owners Kind.Box (list_of Kind.Box blk)) (ok_owners Kind.Net (list_of Kind.Net blk)) (ok_members Kind.Port (list_of Kind.Box blk) (list_of Kind.Port blk))
    (ok_members Kind.End (list_of Kind.Net blk) (list_of Kind.End blk))
