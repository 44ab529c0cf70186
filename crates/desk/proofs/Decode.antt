-- From words to the book: what it is after a record is added without an entry, after an entry is laid, and after undo.
--     ready-taken, lists-taken, settled-taken; ready-emptied, book-emptied   a record added without an entry; an emptied desk
--     book-changed, book-undone       an entry laid and the lists changed; the latest entry taken
use mathlib.Core.Path.{◌≡◌, refl, sym, ap, ◌∙◌}
use mathlib.Core.List.{List, [], ◌∷◌, ◌++◌, map}
use Prim.Native.Nat.{ℕ, zero, suc, ◌+◌, ◌-◌, ◌*◌, ◌≤◌, ◌<◌, min}
use native.Mathlib.Omega.{arith}
use lib.ListN.{length, get_or, take, drop, set, length-drop, length-set}
use lib.Seq
use Rattle.rows.specs.Rows.{pasted, part, rows, records, count}
use Rattle.rows.proofs.Rows.{rows-prefix, rows_take, take-drop, take-map}
use Rattle.rows.proofs.Areas
use Rattle.rows.proofs.Parts
use Rattle.book.specs.Sizes.{COPIES}
use Rattle.block.specs.Sizes.{BLOCK, PORTS_AT, NETS_AT, ENDS_AT}
use Rattle.desk.specs.Sizes.{NEXT, ENTRY, LATER, DESK}
use Rattle.book.specs.Book.{Record, Lists, Book, list, width, most, with_record, change, back as back-of, no_lists, book_with, no_book}
use Rattle.book.specs.Entries.{Entry, before as Before-of, copies}
use Rattle.block.specs.Block.{start, size, area, list_of, lists_of, with_row}
use Rattle.desk.specs.Desk.{block, with_block, entries_of, book_of, laid, latest, unlaid, Ready, taken, emptied, entry_of}
use Rattle.book.specs.declared.Kind.{Kind}
use Rattle.block.proofs.Blocks.{size_is, within}
use Rattle.book.proofs.Entries
use Rattle.book.proofs.ByKind.{lists-path}
use Rattle.block.proofs.Lists.{counted-with, list-is, lists-with}

-- ---- the desk's block, and its counts
book-path : (l l' : Lists) (ps ps' : List Lists) → l ≡ l' → ps ≡ ps' → ◌≡◌ {A = Book} (record { lists = l; pile = ps }) (record { lists = l'; pile = ps' })
book-path l l' ps ps' e f = λ i. record { lists = e i; pile = f i }

pub block-long : (ws : List ℕ) → DESK ≤ length ws → length (block ws) ≡ BLOCK
unfolding block part
block-long ws h = Seq.length-take-le BLOCK (drop 1 ws) (rw length-drop (omega arith))

pub count-now : (k : Kind) (ws : List ℕ) → count (area k (block ws)) ≡ get_or ws (1 + start k) 0
unfolding area block part
count-now k ws =
    Seq.get_or-take (size k) (drop (start k) (take BLOCK (drop 1 ws))) 0 0 (omega (arith, size_is k))
    ∙ Seq.get_or-drop (start k) (take BLOCK (drop 1 ws)) 0 0
    ∙ Seq.get_or-take BLOCK (drop 1 ws) (start k + 0) 0 (omega (arith, within k, size_is k))
    ∙ Seq.get_or-drop 1 ws (start k + 0) 0
    ∙ ap (λ (i : ℕ). get_or ws i 0) (omega arith)

module _ (ws : List ℕ) (h : DESK ≤ length ws) (blk : List ℕ) (hb : length blk ≡ BLOCK) where
  pub length-with : length (with_block blk ws) ≡ length ws
  unfolding with_block
  length-with = Parts.put-length 1 BLOCK blk ws hb (omega arith)

  pub block_with : block (with_block blk ws) ≡ blk
  unfolding with_block block
  block_with = Parts.put_same 1 BLOCK blk ws hb (omega arith)

  pub entries_with : entries_of (with_block blk ws) ≡ entries_of ws
  unfolding entries_of with_block
  entries_with = rw (Parts.put-head 1 BLOCK blk ws hb (omega arith) 0 (omega arith), Parts.put_rest 1 BLOCK blk ws hb (omega arith) NEXT (omega arith))

  pub book-with : book_of (with_block blk ws) ≡ record { lists = lists_of blk; pile = copies (entries_of ws) (lists_of blk) }
  unfolding book_of
  book-with =
      book-path _ _ _ _ (ap lists_of block_with)
      (ap (λ (t : List ℕ). copies (entries_of (with_block blk ws)) (lists_of t)) block_with ∙ ap (λ (es : List Entry). copies es (lists_of blk)) entries_with)

-- ---- a record added without an entry
module _ (k : Kind) (r : Record) (ws : List ℕ) (ready : Ready ws) (hw : length r ≡ width k) (room : count (area k (block ws)) < most k) where
  row-long : length (with_row k r (block ws)) ≡ BLOCK
  row-long = (counted-with k (block ws) ready.counted r hw room).long

  pub ready-taken : Ready (taken k r ws)
  unfolding taken
  ready-taken = record {
    long = rw (length-with ws ready.long (with_row k r (block ws)) row-long) ready.long;
    counted = rw (block_with ws ready.long (with_row k r (block ws)) row-long) (counted-with k (block ws) ready.counted r hw room);
  }

  pub length_taken : length (taken k r ws) ≡ length ws
  unfolding taken
  length_taken = length-with ws ready.long (with_row k r (block ws)) row-long

  pub lists-taken : lists_of (block (taken k r ws)) ≡ with_record k r (lists_of (block ws))
  unfolding taken
  lists-taken = ap lists_of (block_with ws ready.long (with_row k r (block ws)) row-long) ∙ lists-with k (block ws) ready.counted r hw room

  entries-taken : entries_of (taken k r ws) ≡ entries_of ws
  unfolding taken
  entries-taken = entries_with ws ready.long (with_row k r (block ws)) row-long

-- ---- a desk with nothing to undo
pub record Settled (ws : List ℕ) : Type 0 where
  pub none_laid : entries_of ws ≡ []

pub settled-taken : (k : Kind) (r : Record) (ws : List ℕ) → Ready ws → length r ≡ width k → count (area k (block ws)) < most k → Settled ws → Settled (taken k r ws)
settled-taken k r ws ready hw room s = record { none_laid = entries-taken k r ws ready hw room ∙ s.none_laid }

pub book-settled : (ws : List ℕ) → Settled ws → book_of ws ≡ book_with (lists_of (block ws))
unfolding book_of copies
book-settled ws s = ap (λ (es : List Entry). record { lists = lists_of (block ws); pile = copies es (lists_of (block ws)) }) s.none_laid

-- ---- an emptied desk
zero-set : (l : List ℕ) (i : ℕ) → get_or (set l i 0) i 0 ≡ 0
zero-set [] zero = refl
zero-set [] (suc i) = refl
zero-set (x ∷ l) zero = refl
zero-set (x ∷ l) (suc i) = zero-set l i

zero-kept : (l : List ℕ) (i j : ℕ) → get_or l j 0 ≡ 0 → get_or (set l i 0) j 0 ≡ 0
zero-kept [] i j e = e
zero-kept (x ∷ l) zero zero e = refl
zero-kept (x ∷ l) zero (suc j) e = e
zero-kept (x ∷ l) (suc i) zero e = e
zero-kept (x ∷ l) (suc i) (suc j) e = zero-kept l i j e

-- a desk whose counts and depth are 0 holds an empty book
module _ (ws : List ℕ) (depth : get_or ws 0 0 ≡ 0) (none : (k : Kind) → get_or ws (1 + start k) 0 ≡ 0) where
  list-none : (k : Kind) → list k (lists_of (block ws)) ≡ list k no_lists
  unfolding list_of records rows
  list-none k = list-is k (block ws) ∙ ap (λ (n : ℕ). records (width k) n (area k (block ws))) (count-now k ws ∙ none k) ∙ nil k
    where
      nil : (k : Kind) → [] ≡ list k no_lists
      nil Kind.Box = refl
      nil Kind.Port = refl
      nil Kind.Net = refl
      nil Kind.End = refl

  entries_none : entries_of ws ≡ []
  unfolding entries_of rows
  entries_none = rw depth

  pub lists-none : lists_of (block ws) ≡ no_lists
  lists-none = lists-path (lists_of (block ws)) no_lists list-none

  pub book-none : book_of ws ≡ no_book
  unfolding book_of copies
  book-none = book-path _ _ _ _ lists-none (ap (λ (es : List Entry). copies es (lists_of (block ws))) entries_none)

module _ (ws : List ℕ) where
  pub length-emptied : length (emptied ws) ≡ length ws
  unfolding emptied
  length-emptied = simp length-set

  abbrev a₀ : List ℕ
  a₀ = set ws 0 0

  abbrev a₁ : List ℕ
  a₁ = set a₀ 1 0

  abbrev a₂ : List ℕ
  a₂ = set a₁ (1 + PORTS_AT) 0

  abbrev a₃ : List ℕ
  a₃ = set a₂ (1 + NETS_AT) 0

  pub depth-emptied : get_or (emptied ws) 0 0 ≡ 0
  unfolding emptied
  depth-emptied = zero-kept a₃ (1 + ENDS_AT) 0 (zero-kept a₂ (1 + NETS_AT) 0 (zero-kept a₁ (1 + PORTS_AT) 0 (zero-kept a₀ 1 0 (zero-set ws 0))))

  pub counts-emptied : (k : Kind) → get_or (emptied ws) (1 + start k) 0 ≡ 0
  unfolding emptied
  counts-emptied Kind.Box = zero-kept a₃ (1 + ENDS_AT) 1 (zero-kept a₂ (1 + NETS_AT) 1 (zero-kept a₁ (1 + PORTS_AT) 1 (zero-set a₀ 1)))
  counts-emptied Kind.Port = zero-kept a₃ (1 + ENDS_AT) (1 + PORTS_AT) (zero-kept a₂ (1 + NETS_AT) (1 + PORTS_AT) (zero-set a₁ (1 + PORTS_AT)))
  counts-emptied Kind.Net = zero-kept a₃ (1 + ENDS_AT) (1 + NETS_AT) (zero-set a₂ (1 + NETS_AT))
  counts-emptied Kind.End = zero-set a₃ (1 + ENDS_AT)

  pub book-emptied : book_of (emptied ws) ≡ no_book
  book-emptied = book-none (emptied ws) depth-emptied counts-emptied

  pub lists-emptied : lists_of (block (emptied ws)) ≡ no_lists
  lists-emptied = lists-none (emptied ws) depth-emptied counts-emptied

  pub settled-emptied : Settled (emptied ws)
  settled-emptied = record { none_laid = entries_none (emptied ws) depth-emptied counts-emptied }

  pub ready-emptied : DESK ≤ length ws → Ready (emptied ws)
  ready-emptied h = record {
    long = rw length-emptied h;
    counted = record {
      long = block-long (emptied ws) (rw length-emptied h);
      few = λ k. let e : count (area k (block (emptied ws))) ≡ 0 = count-now k (emptied ws) ∙ counts-emptied k in omega arith;
    };
  }

-- ---- an entry laid, and taken off
-- the first n entries of 31, whatever stands behind them
first_rows : (n : ℕ) (xs ys : List ℕ) → n * ENTRY ≤ LATER → LATER ≤ length xs → rows ENTRY n (take LATER xs ++ ys) ≡ rows ENTRY n xs
first_rows n xs ys hn l =
    let e : length (take LATER xs) ≡ LATER = Seq.length-take-le LATER xs l in
    rows-prefix ENTRY n (take LATER xs ++ ys) xs
    (Seq.take-append-le (n * ENTRY) (take LATER xs) ys (omega arith) ∙ Seq.take-take (n * ENTRY) LATER xs hn)

take_more : {A : Type 0} (x : A) (xs : List A) → take COPIES (x ∷ xs) ≡ x ∷ take 31 xs
take_more x xs = refl

module _ (ws : List ℕ) (h : DESK ≤ length ws) (e : List ℕ) (he : length e ≡ ENTRY) where
  abbrev moved : List ℕ
  moved = pasted ws (NEXT + ENTRY) (drop NEXT ws) LATER

  abbrev put : List ℕ
  put = pasted moved NEXT e ENTRY

  abbrev depth' : ℕ
  depth' = min (get_or ws 0 0 + 1) COPIES

  long₁ : LATER ≤ length (drop NEXT ws)
  long₁ = rw length-drop (omega arith)

  length_moved : length moved ≡ length ws
  unfolding pasted
  length_moved = Seq.length-paste ws (NEXT + ENTRY) (drop NEXT ws) LATER (omega arith) long₁

  length-entry : length put ≡ length ws
  unfolding pasted
  length-entry = Seq.length-paste moved NEXT e ENTRY (omega (arith, length_moved)) (omega arith) ∙ length_moved

  pub length-laid : length (laid e ws) ≡ length ws
  unfolding laid
  length-laid = length-set put 0 depth' ∙ length-entry

  head-laid : get_or (laid e ws) 0 0 ≡ depth'
  unfolding laid
  head-laid = Seq.get_or-set_same put 0 depth' 0 (rw length-entry (omega arith))

  tail-laid : drop NEXT (laid e ws) ≡ e ++ (take LATER (drop NEXT ws) ++ drop DESK ws)
  unfolding laid
  tail-laid =
      Seq.drop-set-lt NEXT put 0 depth' (omega arith)
      ∙ Areas.from moved NEXT e ENTRY (omega (arith, length_moved)) (omega arith)
      ∙ ap (λ (t : List ℕ). take ENTRY e ++ t) (Areas.from ws (NEXT + ENTRY) (drop NEXT ws) LATER (omega arith) long₁)
      ∙ ap (λ (t : List ℕ). t ++ (take LATER (drop NEXT ws) ++ drop DESK ws)) (Seq.take_all ENTRY e (omega arith))

  pub block-laid : block (laid e ws) ≡ block ws
  unfolding laid block part
  block-laid =
      ap (take BLOCK) (Seq.drop-set-lt 1 put 0 depth' (omega arith))
      ∙ take-drop 1 BLOCK put
      ∙ ap (drop 1)
      (Areas.before moved NEXT e ENTRY (omega (arith, length_moved)) (omega arith)
      ∙ sym (Seq.take-take NEXT (NEXT + ENTRY) moved (omega arith))
      ∙ ap (take NEXT) (Areas.before ws (NEXT + ENTRY) (drop NEXT ws) LATER (omega arith) long₁)
      ∙ Seq.take-take NEXT (NEXT + ENTRY) ws (omega arith))
      ∙ sym (take-drop 1 BLOCK ws)

  rows-laid : (m : ℕ) → m ≤ 31 → rows ENTRY (suc m) (drop NEXT (laid e ws)) ≡ e ∷ rows ENTRY m (drop NEXT ws)
  unfolding rows
  rows-laid m hm =
      let R : List ℕ = take LATER (drop NEXT ws) ++ drop DESK ws in
      rw (tail-laid, Seq.take_at e R ENTRY he, Seq.drop_at e R ENTRY he) (ap (λ (t : List (List ℕ)). e ∷ t) (first_rows m (drop NEXT ws) (drop DESK ws) (omega arith) long₁))

  -- the entry is on top, and a 33rd drops the oldest
  pub entries-laid : entries_of (laid e ws) ≡ take COPIES (entry_of e ∷ entries_of ws)
  unfolding entries_of
  entries-laid =
      let d : ℕ = get_or ws 0 0 in
      let em : depth' ≡ suc (min 31 d) = omega arith in
      ap (λ (n : ℕ). map entry_of (rows ENTRY n (drop NEXT (laid e ws)))) (head-laid ∙ em)
      ∙ ap (map entry_of) (rows-laid (min 31 d) (omega arith) ∙ ap (λ (t : List (List ℕ)). e ∷ t) (sym (rows_take ENTRY 31 d (drop NEXT ws))))
      ∙ ap (λ (t : List Entry). entry_of e ∷ t) (sym (take-map entry_of 31 (rows ENTRY d (drop NEXT ws))))
      ∙ sym (take_more (entry_of e) (map entry_of (rows ENTRY d (drop NEXT ws))))

  pub book-changed : (blk : List ℕ) → length blk ≡ BLOCK → Before-of (entry_of e) (lists_of blk) ≡ lists_of (block ws)
      → book_of (with_block blk (laid e ws)) ≡ change (book_of ws) (lists_of blk)
  unfolding change book_of copies
  book-changed blk hb q =
      let l : Lists = lists_of blk in
      book-with (laid e ws) (rw length-laid h) blk hb
      ∙ book-path _ _ _ _ refl
      (ap (λ (es : List Entry). copies es l) entries-laid ∙ Entries.copies-take COPIES (entry_of e ∷ entries_of ws) l
      ∙ ap (λ (m : Lists). take COPIES (m ∷ copies (entries_of ws) m)) q)

  rest-laid : drop DESK (laid e ws) ≡ drop DESK ws
  unfolding laid
  rest-laid =
      Seq.drop-set-lt DESK put 0 depth' (omega arith)
      ∙ sym (Seq.drop-drop LATER (NEXT + ENTRY) put)
      ∙ ap (drop LATER) (behind moved NEXT e ENTRY (omega (arith, length_moved)) (omega arith))
      ∙ Seq.drop-drop LATER (NEXT + ENTRY) moved
      ∙ behind ws (NEXT + ENTRY) (drop NEXT ws) LATER (omega arith) long₁
    where
      behind : (d : List ℕ) (at : ℕ) (s : List ℕ) (n : ℕ) → at + n ≤ length d → n ≤ length s → drop (at + n) (pasted d at s n) ≡ drop (at + n) d
      behind d at s n hd hs = Areas.past d at s n hd hs

  pub rest-with : (blk : List ℕ) → length blk ≡ BLOCK → drop DESK (with_block blk (laid e ws)) ≡ drop DESK ws
  unfolding with_block
  rest-with blk hb =
      let l : DESK ≤ length (laid e ws) = rw length-laid h in
      Parts.put_rest 1 BLOCK blk (laid e ws) hb (omega arith) DESK (omega arith) ∙ rest-laid

module _ (ws : List ℕ) (h : DESK ≤ length ws) where
  abbrev down : List ℕ
  down = pasted ws NEXT (drop (NEXT + ENTRY) ws) LATER

  long₂ : LATER ≤ length (drop (NEXT + ENTRY) ws)
  long₂ = rw length-drop (omega arith)

  length-down : length down ≡ length ws
  unfolding pasted
  length-down = Seq.length-paste ws NEXT (drop (NEXT + ENTRY) ws) LATER (omega arith) long₂

  pub length-unlaid : length (unlaid ws) ≡ length ws
  unfolding unlaid
  length-unlaid = length-set down 0 (get_or ws 0 0 - 1) ∙ length-down

  head-unlaid : get_or (unlaid ws) 0 0 ≡ get_or ws 0 0 - 1
  unfolding unlaid
  head-unlaid = Seq.get_or-set_same down 0 (get_or ws 0 0 - 1) 0 (rw length-down (omega arith))

  pub block-unlaid : block (unlaid ws) ≡ block ws
  unfolding unlaid block part
  block-unlaid =
      ap (take BLOCK) (Seq.drop-set-lt 1 down 0 (get_or ws 0 0 - 1) (omega arith))
      ∙ take-drop 1 BLOCK down
      ∙ ap (drop 1) (Areas.before ws NEXT (drop (NEXT + ENTRY) ws) LATER (omega arith) long₂)
      ∙ sym (take-drop 1 BLOCK ws)

  tail-unlaid : drop NEXT (unlaid ws) ≡ take LATER (drop (NEXT + ENTRY) ws) ++ drop (NEXT + LATER) ws
  unfolding unlaid
  tail-unlaid =
      Seq.drop-set-lt NEXT down 0 (get_or ws 0 0 - 1) (omega arith)
      ∙ Areas.from ws NEXT (drop (NEXT + ENTRY) ws) LATER (omega arith) long₂

  pub entries-unlaid : (d : ℕ) → get_or ws 0 0 ≡ suc d → suc d ≤ COPIES → entries_of ws ≡ entry_of (latest ws) ∷ entries_of (unlaid ws)
  unfolding entries_of latest part rows
  entries-unlaid d ed hd =
      let c : get_or (unlaid ws) 0 0 ≡ d = head-unlaid ∙ omega arith in
      rw (ed, c)
      (ap (λ (t : List (List ℕ)). entry_of (take ENTRY (drop NEXT ws)) ∷ map entry_of t)
      (ap (rows ENTRY d) (Seq.drop-drop ENTRY NEXT ws)
      ∙ sym (ap (rows ENTRY d) tail-unlaid ∙ first_rows d (drop (NEXT + ENTRY) ws) (drop (NEXT + LATER) ws) (omega arith) long₂)))

  pub book-undone : (d : ℕ) → get_or ws 0 0 ≡ suc d → suc d ≤ COPIES → (blk : List ℕ) → length blk ≡ BLOCK
      → lists_of blk ≡ Before-of (entry_of (latest ws)) (lists_of (block ws)) → book_of (with_block blk (unlaid ws)) ≡ back-of (book_of ws) (book_of ws).pile
  unfolding book_of copies back-of
  book-undone d ed hd blk hb q =
      let l : Lists = lists_of (block ws) in
      book-with (unlaid ws) (rw length-unlaid h) blk hb
      ∙ ap (λ (m : Lists). record { lists = m; pile = copies (entries_of (unlaid ws)) m }) q
      ∙ sym (ap (λ (es : List Entry). back-of (book_of ws) (copies es l)) (entries-unlaid d ed hd))

  pub rest-unlaid : (blk : List ℕ) → length blk ≡ BLOCK → drop DESK (with_block blk (unlaid ws)) ≡ drop DESK ws
  unfolding with_block unlaid
  rest-unlaid blk hb =
      let l : DESK ≤ length (unlaid ws) = rw length-unlaid h in
      Parts.put_rest 1 BLOCK blk (unlaid ws) hb (omega arith) DESK (omega arith)
      ∙ Seq.drop-set-lt DESK down 0 (get_or ws 0 0 - 1) (omega arith)
      ∙ sym (Seq.drop-drop ENTRY (NEXT + LATER) down)
      ∙ ap (drop ENTRY) (Areas.past ws NEXT (drop (NEXT + ENTRY) ws) LATER (omega arith) long₂)
      ∙ Seq.drop-drop ENTRY (NEXT + LATER) ws
