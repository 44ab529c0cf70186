-- Records one after another: what words of a desk they are.
--     flat_rows      the first n rows of some words are the words themselves
--     count-desk     a kind's count in a desk's words
--     rows-desk      a kind's rows in a desk's words
use mathlib.Core.Path.{◌≡◌, sym, ap, ◌∙◌}
use mathlib.Core.List.{List, ◌++◌}
use mathlib.Core.Bool.{true}
use Prim.Native.Nat.{ℕ, zero, suc, ◌+◌, ◌-◌, ◌*◌, ◌≤◌}
use native.Mathlib.Nat.{zero-mul}
use native.Mathlib.Omega.{arith}
use lib.ListN.{length, get_or, take, drop}
use lib.Seq.{take-add, take-take, drop-drop}
use Rattle.rows.specs.Rows.{rows, records, part, count}
use Rattle.rows.proofs.Rows.{suc-row, take-drop}
use Rattle.desk.specs.Sizes.{DESK}
use Rattle.block.specs.Sizes.{BLOCK}
use Rattle.book.specs.Book.{list, width, most, valid}
use Rattle.block.specs.Block.{start, size, area, list_of}
use Rattle.desk.specs.Desk.{block, book_of}
use Rattle.book.specs.declared.Kind.{Kind}
use Rattle.block.proofs.Blocks.{length-list, rows_in, within}
use Rattle.block.proofs.Lists.{list-is, few-all}
use Rattle.desk.proofs.Decode.{count-now}
use Rattle.desk.proofs.Valid.{head_ok}
use Rattle.select.specs.Page.{flat}

pub flat_rows : (w n : ℕ) (ws : List ℕ) → flat (rows w n ws) ≡ take (n * w) ws
unfolding flat rows
flat_rows w zero ws = rw (zero-mul w)
flat_rows w (suc n) ws =
    ap (λ (t : List ℕ). take w ws ++ t) (flat_rows w n (drop w ws)) ∙ sym (take-add w (n * w) ws) ∙ ap (λ (m : ℕ). take m ws) (sym (suc-row n w))

-- the list of a kind, as the words say it
list-now : (k : Kind) (ws : List ℕ) → list k (book_of ws).lists ≡ list_of k (block ws)
unfolding book_of
list-now k ws = list-is k (block ws)

pub count-desk : (k : Kind) (ws : List ℕ) (a : ℕ) → a ≡ 1 + start k → get_or ws a 0 ≡ length (list k (book_of ws).lists)
count-desk k ws a e =
    ap (λ (t : ℕ). get_or ws t 0) e ∙ sym (count-now k ws) ∙ sym (length-list k (block ws)) ∙ ap length (sym (list-now k ws))

pub few-desk : (k : Kind) (ws : List ℕ) → valid (book_of ws) ≡ true → length (list k (book_of ws).lists) ≤ most k
few-desk k ws v =
    omega (arith, ap length (list-now k ws), length-list k (block ws), few-all (block ws) (head_ok ws v) k)

-- a part of a part
part-part : (a n b m : ℕ) (ws : List ℕ) → b + m ≤ n → take m (drop b (take n (drop a ws))) ≡ take m (drop (a + b) ws)
part-part a n b m ws h =
    take-drop b m (take n (drop a ws)) ∙ ap (drop b) (take-take (b + m) n (drop a ws) h) ∙ sym (take-drop b m (drop a ws))
    ∙ ap (take m) (drop-drop b a ws)

flat-list : (k : Kind) (blk : List ℕ) → count (area k blk) ≤ most k → flat (list_of k blk) ≡ take (count (area k blk) * width k) (drop (start k + 1) blk)
unfolding list_of records area part
flat-list k blk h =
    flat_rows (width k) (count (area k blk)) (drop 1 (area k blk))
    ∙ part-part (start k) (size k) 1 (count (area k blk) * width k) blk (rows_in k (count (area k blk)) h)

module _ (k : Kind) (ws : List ℕ) (v : valid (book_of ws) ≡ true) (a w n m : ℕ) (ea : a ≡ 1 + start k) (ew : w ≡ width k)
    (is : n ≡ length (list k (book_of ws).lists)) (em : m ≡ a + 1 + n * w - (a + 1)) where
  few : n ≤ most k
  few = omega (arith, few-desk k ws v, is)

  pub rows_end : a + 1 + n * w ≤ DESK
  rows_end = rw ew (omega (arith, rows_in k n few, within k))

  pub rows-desk : take m (drop (a + 1) ws) ≡ flat (list k (book_of ws).lists)
  unfolding block part
  rows-desk =
      let ec : count (area k (block ws)) ≡ n = sym (length-list k (block ws)) ∙ ap length (sym (list-now k ws)) ∙ sym is in
      let e₀ : m ≡ n * w = omega arith in
      let e₁ : m ≡ n * width k = rw ew at e₀ in
      let e₂ : a + 1 ≡ 1 + (start k + 1) = omega arith in
      rw (list-now k ws, flat-list k (block ws) (few-all (block ws) (head_ok ws v) k), ec, e₁, e₂)
      (sym (part-part 1 BLOCK (start k + 1) (n * width k) ws (omega (arith, rows_in k n few, within k))))
