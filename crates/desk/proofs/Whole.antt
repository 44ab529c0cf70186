-- The desk as a whole: what a call answers by the tests on its way, and what its words are then.
use mathlib.Core.Path.{◌≡◌, refl, sym, ap, ◌∙◌}
use mathlib.Core.List.{List, [], ◌++◌}
use mathlib.Core.Bool.{Bool, true, false, cond}
use Prim.Native.Nat.{ℕ, ◌+◌, ◌-◌, ◌*◌, ◌≤◌, ◌<◌, min}
use native.Mathlib.Omega.{arith}
use lib.ListN.{length, get_or, take, drop, set, replicate}
use lib.Seq
use lib.Dec.{eqb, leb}
use borrow.Author.Tests.{leb-true, le-leb, lt-leb, eq-eqb, ne_eqb}
use Rattle.std.proofs.Common.{Result}
use Rattle.std.specs.Result.{IsErrAnd}
use Rattle.rows.specs.Rows.{pasted, part, with_part, count}
use Rattle.rows.proofs.Rows
use Rattle.book.specs.Sizes.{COPIES}
use Rattle.block.specs.Sizes.{BLOCK}
use Rattle.desk.specs.Sizes.{DESK, NEXT, ENTRY, LATER}
use Rattle.book.specs.Book.{Record, width, spot, room_number, answer, take_number, leave_number, ok_lists, valid}
use Rattle.book.specs.Entries.{before}
use Rattle.book.specs.Refusals.{code, number_of}
use Rattle.book.specs.declared.Refusal.{Refusal}
use Rattle.book.proofs.Refusals.{passed, refused}
use Rattle.desk.specs.Desk.{Sound, book_of, block, with_block, taken, at0, sized, laid, latest, unlaid, tag, KINDS, entry_of, out_words, back_words}
use Rattle.block.specs.Block.{Counted, start, area, list_of, lists_of, with_row, without_row, block_before}
use Rattle.book.specs.declared.Kind.{Kind}
use Rattle.desk.specs.Calls.{retired}
use Rattle.block.proofs.Lists
use Rattle.desk.proofs.Valid
use Rattle.block.proofs.Blocks
use Rattle.desk.proofs.Decode
use Rattle.desk.proofs.Words

-- ---- numbers: n is what the definition says, r what the code returns
pub kept : (r : ℕ) (after ws : List ℕ) → (r ≡ 0 → ⊥) → ws ≡ at0 r after ws
unfolding at0
kept r after ws h = rw (ne_eqb r 0 h)

-- ---- a record added without a copy
pub put_back : (k : Kind) (r : Record) (ws ys : List ℕ) → ys ≡ with_row k r (block ws) → take 1 ws ++ (ys ++ drop BLOCK (drop 1 ws)) ≡ taken k r ws
unfolding taken with_block with_part
put_back k r ws ys e = rw e

-- ---- an entry laid and taken off
pub laid_is : (ws e m l : List ℕ) (d : ℕ) → m ≡ pasted ws (NEXT + ENTRY) (drop NEXT ws) LATER → l ≡ pasted m NEXT e ENTRY → d ≡ min (get_or ws 0 0 + 1) COPIES
    → set l 0 d ≡ laid e ws
unfolding laid
laid_is ws e m l d em el ed = rw (ed, el, em)

pub took-off : (ws l : List ℕ) → l ≡ pasted ws NEXT (drop (NEXT + ENTRY) ws) LATER → get_or l 0 0 ≡ get_or ws 0 0 → set l 0 (get_or l 0 0 - 1) ≡ unlaid ws
unfolding unlaid
took-off ws l e d = rw (d, e)

-- ---- the desk's test
module _ (ws : List ℕ) where
  pub test-1 : length ws < DESK → 1 ≡ sized ws (answer (valid (book_of ws)) 0 0)
  unfolding sized
  test-1 h = rw (lt-leb DESK (length ws) h)

  pub test-2 : DESK ≤ length ws → (v : Bool) → v ≡ valid (book_of ws) → v ≡ false → 2 ≡ sized ws (answer (valid (book_of ws)) 0 0)
  unfolding sized answer
  test-2 h v e t = rw (le-leb DESK (length ws) h, ← e, t)

  pub test-0 : DESK ≤ length ws → (v : Bool) → v ≡ valid (book_of ws) → v ≡ true → 0 ≡ sized ws (answer (valid (book_of ws)) 0 0)
  unfolding sized answer
  test-0 h v e t = rw (le-leb DESK (length ws) h, ← e, t)

-- ---- the answers of a call on the desk: d is the desk's test, a the number on a sound desk; `after` are the words of a change
module _ (ws : List ℕ) (d : ℕ) (ed : d ≡ sized ws (answer (valid (book_of ws)) 0 0)) where
  -- a refusal of the test comes before all others, and only a sound desk passes
  by : (f n : ℕ) → ((d ≡ 0 → ⊥) → d ≡ sized ws (answer (valid (book_of ws)) f n)) × (d ≡ 0 → Sound ws)
  unfolding sized answer
  by f n = go (leb DESK (length ws)) refl (valid (book_of ws)) refl ed
    where
      go : (l : Bool) → leb DESK (length ws) ≡ l → (v : Bool) → valid (book_of ws) ≡ v → d ≡ cond l (answer v 0 0) 1
          → ((d ≡ 0 → ⊥) → d ≡ cond l (answer v f n) 1) × (d ≡ 0 → Sound ws)
      go true t true e q = (λ h. absurd (h q), λ z. record { long = leb-true DESK (length ws) t; book = e })
      go true t false e q = (λ h. q, λ z. absurd (omega arith))
      go false t v e q = (λ h. q, λ z. absurd (omega arith))

  pub sound-at : d ≡ 0 → Sound ws
  sound-at = (by 0 0).1

  pub unsound-at : DESK ≤ length ws → (d ≡ 0 → ⊥) → valid (book_of ws) ≡ false
  unfolding sized answer
  unsound-at h z = go (valid (book_of ws)) refl
    where
      go : (v : Bool) → valid (book_of ws) ≡ v → v ≡ false
      go true e = absurd (z (ed ∙ rw (le-leb DESK (length ws) h, e)))
      go false e = refl

  module _ (after : List ℕ) (f n : ℕ) where
    abbrev it : ℕ
    it = sized ws (answer (valid (book_of ws)) f n)

    both : (r : ℕ) → r ≡ it → (r ≡ 0 → ⊥) → (r ≡ it) × (ws ≡ at0 it after ws)
    unfolding at0
    both r e h = (e, rw (← e, ne_eqb r 0 h))

    pub says-d : (d ≡ 0 → ⊥) → (d ≡ it) × (ws ≡ at0 it after ws)
    says-d h = both d ((by f n).0 h) h

    module _ (z : d ≡ 0) (a : ℕ) (ea : a ≡ answer true f n) where
      passes : it ≡ a
      unfolding sized
      passes = rw (le-leb DESK (length ws) (sound-at z).long, (sound-at z).book) (sym ea)

      pub says-n : (a ≡ 0 → ⊥) → (a ≡ it) × (ws ≡ at0 it after ws)
      says-n ha = both a (sym passes) ha

      pub says-0 : a ≡ 0 → (w : List ℕ) → w ≡ after → (0 ≡ it) × (w ≡ at0 it after ws)
      unfolding at0
      says-0 ha w ew =
          let e : 0 ≡ it = sym ha ∙ sym passes in
          (e, rw (← e) ew)

-- ---- what follows from the test that is passed, and what a call answers that hands a refusal on: the test's, or that of a later test
pub sound-ok : {ws : List ℕ} → 0 ≡ sized ws (answer (valid (book_of ws)) 0 0) → Sound ws
sound-ok {ws} z = sound-at ws 0 z refl

module _ {R : Type 0} {ws : List ℕ} (r : Result R Refusal) (e : Refusal) (h : IsErrAnd r (λ y. y ≡ e)) where
  pub turned : code e ≡ sized ws (answer (valid (book_of ws)) 0 0) → (after : List ℕ) (f n : ℕ)
      → (number_of r ≡ sized ws (answer (valid (book_of ws)) f n)) × (ws ≡ at0 (sized ws (answer (valid (book_of ws)) f n)) after ws)
  turned d after f n = let both = says-d ws (code e) d after f n (refused e) in (passed r e h ∙ both.0, both.1)

  pub turned-late : 0 ≡ sized ws (answer (valid (book_of ws)) 0 0) → (after : List ℕ) (f n : ℕ) → code e ≡ answer true f n
      → (number_of r ≡ sized ws (answer (valid (book_of ws)) f n)) × (ws ≡ at0 (sized ws (answer (valid (book_of ws)) f n)) after ws)
  turned-late z after f n d = let both = says-n ws 0 z after f n refl (code e) d (refused e) in (passed r e h ∙ both.0, both.1)

-- ---- a sound desk's block now
module _ (ws : List ℕ) (s : Sound ws) where
  pub lists-fit : ok_lists (lists_of (block ws)) ≡ true
  lists-fit = Valid.head_ok ws s.book

  pub counted : Counted (block ws)
  counted = record { long = Decode.block-long ws s.long; few = Lists.few-all (block ws) lists-fit }

  pub latest-fits : (get_or ws 0 0 ≡ 0 → ⊥) → ok_lists (before (entry_of (latest ws)) (lists_of (block ws))) ≡ true
  latest-fits z = Valid.latest-ok ws s.long s.book z

  pub spot-here : (k : Kind) (name n i : ℕ) → n ≡ leave_number k name (lists_of (block ws)) → n ≡ 0 → i ≡ spot k (lists_of (block ws)) name → i < count (area k (block ws))
  spot-here k name n i e z ei = rw ei (Blocks.leave-spot k (block ws) name n e z)

  -- l are the words with the entry e laid: the block is as it was
  module _ (e l : List ℕ) (he : length e ≡ ENTRY) (el : l ≡ laid e ws) where
    carried : block l ≡ block ws
    carried = ap block el ∙ Decode.block-laid ws s.long e he

    pub counted-laid : Counted (block l)
    counted-laid = rw carried counted

    pub changed : (F : List ℕ → List ℕ) (ys : List ℕ) → ys ≡ F (block l) → take 1 l ++ (ys ++ drop BLOCK (drop 1 l)) ≡ with_block (F (block ws)) (laid e ws)
    unfolding with_block with_part
    changed F ys ey = rw (ey, carried, el)

    pub room-laid : (k : Kind) (r : Record) (n : ℕ) → n ≡ take_number k r (lists_of (block ws)) → n ≡ 0 → room_number k (list_of k (block l)) ≡ 0
    room-laid k r n q z = rw carried (Blocks.take-room k (block ws) r n q z)

    pub spot-laid : (k : Kind) (i : ℕ) → i < count (area k (block ws)) → i < count (area k (block l))
    spot-laid k i hi = rw carried hi

  -- the entry of a retirement is whole
  pub long-retired : (k : Kind) (i : ℕ) → i < count (area k (block ws)) → length (back_words k i (get_or (list_of k (block ws)) i [])) ≡ ENTRY
  long-retired k i hi = Words.long-back k i _ (Lists.row-full k (block ws) counted i hi)

pub retired-at : (ws : List ℕ) (k : Kind) (i j : ℕ) (w : List ℕ) → i ≡ j
    → w ≡ with_block (without_row k i (block ws)) (laid (back_words k i (get_or (list_of k (block ws)) i [])) ws) → w ≡ retired k j ws
unfolding retired
retired-at ws k i j w e q = rw (← e) q

-- ---- undo
module _ (ws : List ℕ) where
  pub depth_is : length (book_of ws).pile ≡ get_or ws 0 0
  depth_is = Valid.length-pile ws (get_or ws 0 0) refl

  pub empty-pile : get_or ws 0 0 ≡ 0 → ◌≡◌ {A = ℕ} 7 (cond (eqb (length (book_of ws).pile) 0) 7 0)
  empty-pile h = rw (eq-eqb (length (book_of ws).pile) 0 (depth_is ∙ h))

  pub some-pile : (get_or ws 0 0 ≡ 0 → ⊥) → ◌≡◌ {A = ℕ} 0 (cond (eqb (length (book_of ws).pile) 0) 7 0)
  some-pile h = rw (ne_eqb (length (book_of ws).pile) 0 (λ e. h (sym depth_is ∙ e)))

-- ---- the entries of a change
pub laid_out : (ws w : List ℕ) (k : Kind) (t : ℕ) → t ≡ tag k → w ≡ laid (set (replicate ENTRY 0) 0 t) ws → w ≡ laid (out_words k) ws
unfolding out_words
laid_out ws w k t e q = q ∙ rw e

-- row i of the desk's block: a is where it begins, n its words as the loan says them
module _ (ws : List ℕ) (h : DESK ≤ length ws) (cnt : Counted (block ws)) (k : Kind) (i : ℕ) (hi : i < count (area k (block ws)))
    (w s : ℕ) (ew : w ≡ width k) (es : s ≡ start k) where
  pub row_room : 2 + s + i * w + w ≤ NEXT
  row_room = rw (ew, es) (omega (arith, Blocks.row_inside k (block ws) cnt i hi))

  module _ (n : ℕ) (en : n ≡ 2 + s + i * w + w - (2 + s + i * w)) where
    pub row-taken : take n (drop (2 + s + i * w) ws) ≡ get_or (list_of k (block ws)) i []
    unfolding block part
    row-taken =
        let q : n ≡ width k = omega arith in
        let j : ℕ = start k + (1 + i * width k) in
        let b : j + width k ≤ BLOCK = Blocks.row_inside k (block ws) cnt i hi in
        let o : 1 + j ≡ 2 + start k + i * width k = omega arith in
        rw (q, es, ew)
        (ap (λ (t : ℕ). take (width k) (drop t ws)) (sym o)
        ∙ ap (take (width k)) (sym (Seq.drop-drop j 1 ws))
        ∙ Rows.take-drop j (width k) (drop 1 ws)
        ∙ ap (drop j) (sym (Seq.take-take (j + width k) BLOCK (drop 1 ws) b))
        ∙ sym (Rows.take-drop j (width k) (take BLOCK (drop 1 ws)))
        ∙ sym (Blocks.row_words k (block ws) cnt i hi))

    pub row_fits : length (take n (drop (2 + s + i * w) ws)) ≡ width k
    row_fits = ap length row-taken ∙ Lists.row-full k (block ws) cnt i hi

    pub laid-back : (t p : ℕ) (e l : List ℕ) → t ≡ tag k → p ≡ i
        → e ≡ pasted (set (set (replicate ENTRY 0) 0 (KINDS + t)) 1 p) 2 (take n (drop (2 + s + i * w) ws)) (length (take n (drop (2 + s + i * w) ws)))
        → l ≡ laid e ws → l ≡ laid (back_words k i (get_or (list_of k (block ws)) i [])) ws
    unfolding back_words
    laid-back t p e l et ep ee el = el ∙ ap (λ (x : List ℕ). laid x ws) (ee ∙ rw (row_fits, row-taken, et, ep))

-- ---- the latest entry taken
module _ (ws l e : List ℕ) (s : Sound ws) (some : 0 < get_or ws 0 0) (el : l ≡ unlaid ws) (ee : e ≡ latest ws) where
  same-now : block l ≡ block ws
  same-now = ap block el ∙ Decode.block-unlaid ws s.long

  pub block-now : length (block l) ≡ BLOCK
  block-now = ap length same-now ∙ Decode.block-long ws s.long

  pub lists-now : ok_lists (lists_of (block l)) ≡ true
  lists-now = rw same-now (lists-fit ws s)

  pub latest-taken : (r : Bool) (ys : List ℕ) → (r ≡ ok_lists (before (entry_of e) (lists_of (block l)))) × (r ≡ true → ys ≡ block_before (entry_of e) (block l))
      → take 1 l ++ (ys ++ drop BLOCK (drop 1 l)) ≡ with_block (block_before (entry_of (latest ws)) (block ws)) (unlaid ws)
  unfolding with_block with_part
  latest-taken r ys p =
      let t : r ≡ true = p.0 ∙ rw (ee, same-now) (latest-fits ws s (λ z. omega arith)) in
      rw (p.1 t, ee, same-now, el)
