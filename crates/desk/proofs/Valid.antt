-- Validity of any words: the depth, the lists now, and the turns of the scan over the desk's undo entries.
use mathlib.Core.Path.{◌≡◌, refl, sym, ap, ◌∙◌}
use mathlib.Core.List.{List, ◌∷◌, map}
use mathlib.Core.Bool.{Bool, true, false, ◌&&◌}
use Prim.Native.Nat.{ℕ, suc, ◌+◌, ◌-◌, ◌*◌, ◌≤◌, ◌<◌}
use native.Mathlib.Numerals.{add-one}
use native.Mathlib.Omega.{arith}
use lib.ListN.{length, get_or, take, drop, length-map, drop_of_length-le}
use lib.Seq.{take-take}
use lib.Dec.{leb}
use borrow.Author.Tests.{le-leb, lt-leb}
use Rattle.fixed.proofs.Bools.{and_left, and_right}
use Rattle.rows.specs.Rows.{rows, scan}
use Rattle.rows.proofs.Rows
use Rattle.book.specs.Sizes.{COPIES}
use Rattle.block.specs.Sizes.{BLOCK}
use Rattle.desk.specs.Sizes.{NEXT, ENTRY, PILE, DESK}
use Rattle.book.specs.Book.{Lists, ok_lists, ok_copy, valid}
use Rattle.book.specs.Entries.{Entry, before, copies}
use Rattle.block.specs.Block.{lists_of, block_before}
use Rattle.desk.specs.Desk.{block, entry_of, entries_of, latest, unlaid, book_of}
use Rattle.book.proofs.Keeps
use Rattle.book.proofs.Entries
use Rattle.block.proofs.Lists.{before-block}
use Rattle.desk.proofs.Decode.{entries-unlaid}

-- ---- the desk: refused for its depth, for the lists now, or for an entry
module _ (ws : List ℕ) (d : ℕ) (ed : d ≡ get_or ws 0 0) where
  length-entries : length (entries_of ws) ≡ d
  unfolding entries_of
  length-entries = rw (length-map (rows ENTRY (get_or ws 0 0) (drop NEXT ws)) entry_of) (Rows.length-rows ENTRY (get_or ws 0 0) (drop NEXT ws) ∙ sym ed)

  pub length-pile : length (book_of ws).pile ≡ d
  unfolding book_of
  length-pile = Entries.length-copies (entries_of ws) (lists_of (block ws)) ∙ length-entries

  pub deep : COPIES < d → false ≡ valid (book_of ws)
  unfolding valid
  deep h = rw (length-pile, lt-leb d COPIES h)

  module _ (h : d ≤ COPIES) where
    pub valid-is : valid (book_of ws) ≡ ok_lists (lists_of (block ws)) && scan ok_copy (copies (entries_of ws) (lists_of (block ws)))
    unfolding valid scan ok_copy book_of
    valid-is = rw (length-pile, le-leb d COPIES h)

    module _ (b : Bool) (eb : b ≡ ok_lists (lists_of (block ws))) where
      pub block-fails : b ≡ false → false ≡ valid (book_of ws)
      block-fails t = rw (valid-is, ← eb, t)

      pub entries-say : b ≡ true → (pile blk : List ℕ) (n : ℕ) → n ≡ PILE → pile ≡ take n (drop NEXT ws) → blk ≡ block ws → (r : Bool)
          → r ≡ scan ok_copy (copies (map entry_of (rows ENTRY d pile)) (lists_of blk)) → r ≡ valid (book_of ws)
      unfolding entries_of
      entries-say t pile blk n en ep el r er =
          let q : rows ENTRY d pile ≡ rows ENTRY (get_or ws 0 0) (drop NEXT ws) =
          ap (rows ENTRY d) (ep ∙ ap (λ (k : ℕ). take k (drop NEXT ws)) en)
          ∙ Rows.rows-prefix ENTRY d (take PILE (drop NEXT ws)) (drop NEXT ws) (take-take (d * ENTRY) PILE (drop NEXT ws) (omega arith))
          ∙ ap (λ (k : ℕ). rows ENTRY k (drop NEXT ws)) ed in
          rw (valid-is, ← eb, t) (er ∙ rw (q, el))

-- ---- the turns of the test of entries: es are all of them, l the lists now, blk the block after i of them
unfoldable pub entries_in : ℕ → List ℕ → List Entry
entries_in d pile = map entry_of (rows ENTRY d pile)

pub entry-split : (d i : ℕ) (pile : List ℕ) → i < d → drop i (entries_in d pile) ≡ entry_of (take ENTRY (drop (i * ENTRY) pile)) ∷ drop (i + 1) (entries_in d pile)
unfolding entries_in
entry-split d i pile h = rw (add-one, Rows.drop-map, Rows.drop-map, Rows.rows_split ENTRY d i pile h)

module _ (d : ℕ) (pile : List ℕ) (i : ℕ) (all : Bool) (blk : List ℕ) (so_far : all ≡ scan ok_copy (copies (drop i (entries_in d pile)) (lists_of blk))) where
  module _ (h : i < d) (n : ℕ) (en : n ≡ ENTRY) (b : Bool) (eb : b ≡ ok_lists (before (entry_of (take n (drop (i * ENTRY) pile))) (lists_of blk))) where
    abbrev e : Entry
    e = entry_of (take ENTRY (drop (i * ENTRY) pile))

    here : all ≡ b && scan ok_copy (copies (drop (i + 1) (entries_in d pile)) (before e (lists_of blk)))
    unfolding scan ok_copy copies
    here =
        so_far ∙ ap (λ (es : List Entry). scan ok_copy (copies es (lists_of blk))) (entry-split d i pile h)
        ∙ ap (λ (t : Bool). t && scan ok_copy (copies (drop (i + 1) (entries_in d pile)) (before e (lists_of blk))))
        (sym (eb ∙ ap (λ (m : ℕ). ok_lists (before (entry_of (take m (drop (i * ENTRY) pile))) (lists_of blk))) en))

    pub entry-fails : b ≡ false → false ≡ all
    entry-fails t = sym (here ∙ ap (λ (c : Bool). c && scan ok_copy (copies (drop (i + 1) (entries_in d pile)) (before e (lists_of blk)))) t)

    module _ (t : b ≡ true) (hb : length blk ≡ BLOCK) (ok : ok_lists (lists_of blk) ≡ true) (new : List ℕ)
        (is : b ≡ true → new ≡ block_before (entry_of (take n (drop (i * ENTRY) pile))) blk) where
      became : new ≡ block_before e blk
      became = is t ∙ ap (λ (m : ℕ). block_before (entry_of (take m (drop (i * ENTRY) pile))) blk) en

      kept : ok_lists (before e (lists_of blk)) ≡ true
      kept = sym (eb ∙ ap (λ (m : ℕ). ok_lists (before (entry_of (take m (drop (i * ENTRY) pile))) (lists_of blk))) en) ∙ t

      lists-now : lists_of new ≡ before e (lists_of blk)
      lists-now = ap lists_of became ∙ (before-block blk hb ok e kept).1

      pub entry-long : length new ≡ BLOCK
      entry-long = ap length became ∙ (before-block blk hb ok e kept).0

      pub entry-ok : ok_lists (lists_of new) ≡ true
      entry-ok = ap ok_lists lists-now ∙ kept

      pub entry-passes : all ≡ scan ok_copy (copies (drop (i + 1) (entries_in d pile)) (lists_of new))
      entry-passes =
          here ∙ ap (λ (c : Bool). c && scan ok_copy (copies (drop (i + 1) (entries_in d pile)) (before e (lists_of blk)))) t
          ∙ ap (λ (m : Lists). scan ok_copy (copies (drop (i + 1) (entries_in d pile)) m)) (sym lists-now)

  pub entries-done : d ≤ i → true ≡ all
  unfolding scan copies entries_in
  entries-done h =
      let l : length (entries_in d pile) ≡ d = length-map (rows ENTRY d pile) entry_of ∙ Rows.length-rows ENTRY d pile in
      sym (so_far ∙ ap (λ (es : List Entry). scan ok_copy (copies es (lists_of blk))) (drop_of_length-le (entries_in d pile) {i = i} (omega arith)))

pub entries-start : (d : ℕ) (pile : List ℕ) (l : Lists) → scan ok_copy (copies (map entry_of (rows ENTRY d pile)) l) ≡ scan ok_copy (copies (drop 0 (entries_in d pile)) l)
unfolding entries_in
entries-start d pile l = refl

-- ---- what validity says of the lists now
pub head_ok : (ws : List ℕ) → valid (book_of ws) ≡ true → ok_lists (lists_of (block ws)) ≡ true
unfolding valid book_of scan ok_copy
head_ok ws e = and_left _ _ (and_right (leb (length (book_of ws).pile) COPIES) _ e)

-- and of the latest entry
pub latest-ok : (ws : List ℕ) → DESK ≤ length ws → valid (book_of ws) ≡ true → (get_or ws 0 0 ≡ 0 → ⊥) → ok_lists (before (entry_of (latest ws)) (lists_of (block ws))) ≡ true
unfolding scan ok_copy copies
latest-ok ws h v z =
    let d : ℕ = get_or ws 0 0 - 1 in
    let few : get_or ws 0 0 ≤ COPIES = omega (arith, length-pile ws (get_or ws 0 0) refl, Keeps.shallow (book_of ws) v) in
    let ed : get_or ws 0 0 ≡ suc d = omega (arith, z) in
    let s : ok_lists (lists_of (block ws)) && scan ok_copy (copies (entries_of ws) (lists_of (block ws))) ≡ true = sym (valid-is ws (get_or ws 0 0) refl few) ∙ v in
    let t : scan ok_copy (copies (entry_of (latest ws) ∷ entries_of (unlaid ws)) (lists_of (block ws))) ≡ true =
    ap (λ (es : List Entry). scan ok_copy (copies es (lists_of (block ws)))) (sym (entries-unlaid ws h d ed (omega (arith, few)))) ∙ and_right (ok_lists (lists_of (block ws))) _ s in
    and_left _ (scan ok_copy (copies (entries_of (unlaid ws)) (before (entry_of (latest ws)) (lists_of (block ws))))) t
