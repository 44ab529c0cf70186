-- An entry's words.
--     entry-out, entry-back             the entries of a change
--     as-out, as-back, as_none, of_entry, no-entry   an entry by its words
use mathlib.Core.Path.{◌≡◌, refl, sym, ap, ◌∙◌}
use mathlib.Core.List.{List, [], ◌∷◌}
use mathlib.Core.Bool.{Bool, true, false}
use Prim.Native.Nat.{ℕ, ◌+◌, ◌-◌, ◌*◌, ◌≤◌, ◌<◌}
use native.Mathlib.Omega.{arith}
use lib.ListN.{length, get_or, take, drop, set, replicate}
use lib.Seq
use borrow.Author.Tests.{lt-ltb, le-ltb}
use Rattle.rows.specs.Rows.{pasted}
use Rattle.rows.proofs.Areas
use Rattle.book.specs.Sizes.{BOX}
use Rattle.desk.specs.Sizes.{ENTRY}
use Rattle.book.specs.Book.{Record, Lists, width, ok_lists}
use Rattle.book.specs.Entries.{Entry, out, back, none, applies, before}
use Rattle.desk.specs.Desk.{tag, KINDS, kind_of, comes_back, entry_of, out_words, back_words}
use Rattle.block.specs.Block.{block_before}
use Rattle.book.specs.declared.Kind.{Kind}
use Rattle.book.proofs.Entries

-- ---- an entry's words
kind-tag : (k : Kind) → kind_of (tag k) ≡ k
unfolding kind_of
kind-tag Kind.Box = refl
kind-tag Kind.Port = refl
kind-tag Kind.Net = refl
kind-tag Kind.End = refl

pub few-tags : (k : Kind) → tag k < KINDS
few-tags Kind.Box = omega arith
few-tags Kind.Port = omega arith
few-tags Kind.Net = omega arith
few-tags Kind.End = omega arith

pub narrow : (k : Kind) → width k ≤ BOX
narrow Kind.Box = omega arith
narrow Kind.Port = omega arith
narrow Kind.Net = omega arith
narrow Kind.End = omega arith

pub entry-out : (k : Kind) → entry_of (out_words k) ≡ out k
unfolding entry_of out_words
entry-out k = rw (lt-ltb (tag k) KINDS (few-tags k), kind-tag k)

pub long-out : (k : Kind) → length (out_words k) ≡ ENTRY
unfolding out_words
long-out k = refl

module _ (k : Kind) (i : ℕ) (r : Record) (hw : length r ≡ width k) where
  abbrev base : List ℕ
  base = set (set (replicate ENTRY 0) 0 (KINDS + tag k)) 1 i

  first_two : take 2 (back_words k i r) ≡ (KINDS + tag k) ∷ i ∷ []
  unfolding back_words
  first_two = Areas.before base 2 r (width k) (omega arith) (omega arith)

  row_back : take (width k) (drop 2 (back_words k i r)) ≡ r
  unfolding back_words
  row_back =
      ap (take (width k)) (Areas.from base 2 r (width k) (omega arith) (omega arith))
      ∙ Seq.take_at (take (width k) r) (drop (2 + width k) base) (width k) (Seq.length-take-le (width k) r (omega arith))
      ∙ Seq.take_all (width k) r (omega arith)

  word_back : (j : ℕ) → j < 2 → get_or (back_words k i r) j 0 ≡ get_or ((KINDS + tag k) ∷ i ∷ []) j 0
  word_back j h = sym (Seq.get_or-take 2 (back_words k i r) j 0 h) ∙ ap (λ (t : List ℕ). get_or t j 0) first_two

  pub long-back : length (back_words k i r) ≡ ENTRY
  unfolding back_words pasted
  long-back = Seq.length-paste base 2 r (width k) (omega (arith, narrow k)) (omega arith)

  pub entry-back : entry_of (back_words k i r) ≡ back k i r
  unfolding entry_of comes_back
  entry-back =
      let t : KINDS + tag k - KINDS ≡ tag k = omega arith in
      rw (word_back 0 (omega arith), le-ltb (KINDS + tag k) KINDS (omega arith), lt-ltb (KINDS + tag k) (2 * KINDS) (omega (arith, few-tags k)), t, kind-tag k, word_back 1 (omega arith), row_back)

-- ---- an entry by its words
module _ (e : List ℕ) (k : Kind) where
  pub as-out : tag k ≡ get_or e 0 0 → entry_of e ≡ out k
  unfolding entry_of
  as-out t = rw (← t, lt-ltb (tag k) KINDS (few-tags k), kind-tag k)

  pub as-back : 3 < get_or e 0 0 → tag k ≡ get_or e 0 0 - KINDS → (n : ℕ) → n ≡ width k → entry_of e ≡ back k (get_or e 1 0) (take n (drop 2 e))
  unfolding entry_of comes_back
  as-back h t n en =
      rw (le-ltb (get_or e 0 0) KINDS (omega arith), lt-ltb (get_or e 0 0) (2 * KINDS) (omega (arith, few-tags k)), ← t, kind-tag k, en)

pub as_none : (e : List ℕ) → 3 < get_or e 0 0 → 3 < get_or e 0 0 - KINDS → entry_of e ≡ none
unfolding entry_of
as_none e h l = rw (le-ltb (get_or e 0 0) KINDS (omega arith), le-ltb (get_or e 0 0) (2 * KINDS) (omega arith))

pub of_entry : (x y : Entry) (l : Lists) (blk ys : List ℕ) (r : Bool) → x ≡ y → (r ≡ ok_lists (before y l)) × (r ≡ true → ys ≡ block_before y blk)
    → (r ≡ ok_lists (before x l)) × (r ≡ true → ys ≡ block_before x blk)
of_entry x y l blk ys r e p = rw e p

pub no-entry : (x : Entry) (l : Lists) → x ≡ none → false ≡ ok_lists (before x l)
unfolding before applies
no-entry x l e = sym (ap (λ (t : Entry). ok_lists (before t l)) e ∙ Entries.no-desk)
