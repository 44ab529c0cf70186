-- A desk goes by its first DESK words: what stands behind them, and how much of it is lent, has no say.
--     book-longer, seen-longer, sound-longer    the words with others behind them
--     seen-lent, book-lent, lent_by             what a call sees of the words that it is lent
use mathlib.Core.Path.{◌≡◌, refl, sym, ap, ◌∙◌}
use mathlib.Core.List.{List, [], ◌∷◌, ◌++◌}
use mathlib.Core.Bool.{Bool, true, false}
use Prim.Native.Nat.{ℕ, ◌+◌, ◌*◌, ◌≤◌, ◌<◌}
use native.Mathlib.Omega.{arith}
use lib.ListN.{length, get_or, take, drop, length-append, length-drop, length-take, take-append-drop}
use lib.Seq.{drop-append-le, take-append-le, length-take-le}
use lib.Dec.{leb}
use borrow.Author.Tests.{leb-true, leb-false, le-leb}
use Rattle.rows.specs.Rows.{part}
use Rattle.rows.proofs.Rows.{rows-prefix}
use Rattle.book.specs.Sizes.{COPIES}
use Rattle.block.specs.Sizes.{BLOCK}
use Rattle.desk.specs.Sizes.{NEXT, ENTRY, DESK}
use Rattle.book.specs.Book.{Seen, seen, valid}
use Rattle.desk.specs.Desk.{Sound, block, entries_of, book_of, seen_of}
use Rattle.block.specs.Block.{lists_of}
use Rattle.book.proofs.Keeps.{shallow}
use Rattle.desk.proofs.Whole.{depth_is}

-- a part of the first words
window : (m n : ℕ) (a b : List ℕ) → m + n ≤ length a → take n (drop m (a ++ b)) ≡ take n (drop m a)
window m n a b h = ap (take n) (drop-append-le m a b (omega arith)) ∙ take-append-le n (drop m a) b (omega (arith, length-drop m a))

first : (a b : List ℕ) → 0 < length a → get_or (a ++ b) 0 0 ≡ get_or a 0 0
first [] b h = absurd (omega arith)
first (x ∷ a) b h = refl

-- a desk that is too deep is not sound, whatever its entries are
too-deep : (ws : List ℕ) → leb (get_or ws 0 0) COPIES ≡ false → valid (book_of ws) ≡ false
unfolding valid
too-deep ws e = rw (depth_is ws, e)

module _ (a b : List ℕ) (h : DESK ≤ length a) where
  depth_same : get_or (a ++ b) 0 0 ≡ get_or a 0 0
  depth_same = first a b (omega arith)

  lists-same : lists_of (block (a ++ b)) ≡ lists_of (block a)
  unfolding block part
  lists-same = ap lists_of (window 1 BLOCK a b (omega arith))

  deep : get_or a 0 0 ≤ COPIES → book_of (a ++ b) ≡ book_of a
  unfolding book_of entries_of
  deep d =
      let g : take (get_or a 0 0 * ENTRY) (drop NEXT (a ++ b)) ≡ take (get_or a 0 0 * ENTRY) (drop NEXT a) = window NEXT (get_or a 0 0 * ENTRY) a b (omega arith) in
      rw (depth_same, lists-same, rows-prefix ENTRY (get_or a 0 0) (drop NEXT (a ++ b)) (drop NEXT a) g)

  pub book-longer : valid (book_of a) ≡ true → book_of (a ++ b) ≡ book_of a
  book-longer v = deep (omega (arith, depth_is a, shallow (book_of a) v))

  pub seen-longer : seen_of (a ++ b) ≡ seen_of a
  unfolding book_of
  seen-longer = go (leb (get_or a 0 0) COPIES) refl
    where
      go : (t : Bool) → leb (get_or a 0 0) COPIES ≡ t → seen_of (a ++ b) ≡ seen_of a
      go true e = ap seen (deep (leb-true (get_or a 0 0) COPIES e))
      go false e =
          let s : valid (book_of (a ++ b)) ≡ valid (book_of a) = too-deep (a ++ b) (ap (λ (n : ℕ). leb n COPIES) depth_same ∙ e) ∙ sym (too-deep a e) in
          let d : length (book_of (a ++ b)).pile ≡ length (book_of a).pile = depth_is (a ++ b) ∙ depth_same ∙ sym (depth_is a) in
          λ i. record { sound = s i; lists = lists-same i; depth = d i }

-- ---- a desk of which the first n words are lent
module _ (ws : List ℕ) (n : ℕ) (long : DESK ≤ length ws) where
  pub lent-long : DESK ≤ n → DESK ≤ length (take n ws)
  lent-long h = rw (length-take n ws) (omega arith)

  pub seen-lent : DESK ≤ n → seen_of (take n ws) ≡ seen_of ws
  seen-lent h = sym (seen-longer (take n ws) (drop n ws) (lent-long h)) ∙ ap seen_of (take-append-drop n ws)

  -- whether enough is lent goes by n
  pub long-enough : leb DESK (length (take n ws)) ≡ leb DESK n
  long-enough = go (leb DESK n) refl
    where
      go : (b : Bool) → leb DESK n ≡ b → leb DESK (length (take n ws)) ≡ leb DESK n
      go true t = le-leb DESK (length (take n ws)) (lent-long (leb-true DESK n t)) ∙ sym t
      go false t =
          let l : n < DESK = leb-false DESK n t in
          ap (leb DESK) (length-take-le n ws (omega arith))

  pub book-lent : DESK ≤ n → valid (book_of ws) ≡ true → book_of (take n ws) ≡ book_of ws
  book-lent h v =
      let s : valid (book_of (take n ws)) ≡ true = ap (λ (t : Seen). t.sound) (seen-lent h) ∙ v in
      sym (book-longer (take n ws) (drop n ws) (lent-long h) s) ∙ ap book_of (take-append-drop n ws)

  -- by the size: an answer on the words that are lent is the one on all words, where it goes by what is seen of a desk that is lent whole
  pub lent_by : {A : Type 0} (f : Bool → Seen → A) → ((s t : Seen) → f false s ≡ f false t)
      → f (leb DESK (length (take n ws))) (seen_of (take n ws)) ≡ f (leb DESK n) (seen_of ws)
  lent_by {A} f h = ap (λ (b : Bool). f b (seen_of (take n ws))) long-enough ∙ go (leb DESK n) refl
    where
      go : (b : Bool) → leb DESK n ≡ b → f b (seen_of (take n ws)) ≡ f b (seen_of ws)
      go true t = ap (f true) (seen-lent (leb-true DESK n t))
      go false t = h (seen_of (take n ws)) (seen_of ws)

-- sound words with others behind them
pub sound-longer : (us rest : List ℕ) → DESK ≤ length us → valid (book_of us) ≡ true → (Sound (us ++ rest)) × (book_of (us ++ rest) ≡ book_of us)
sound-longer us rest h v =
    let e = book-longer us rest h v in
    (record { long = omega (arith, length-append us rest); book = ap valid e ∙ v }, e)
