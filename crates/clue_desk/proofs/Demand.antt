-- Lists of all calls. A change goes by the desk's proofs; a reading goes by the text and the sizes alone, and leaves the lists that were read; a search and a
-- layout go by what they see of the desk and leave it as it was.
--     acts      a desk acts as the book
--     rebuilds  the book to which the surviving records were added has the same lists
--     demand    the claim about all calls at once
use mathlib.Core.Path.{◌≡◌, refl, sym, ap, ◌∙◌}
use mathlib.Core.List.{List, [], ◌∷◌, ◌++◌, map}
use mathlib.Core.Bool.{Bool, true, false, cond, ◌&&◌, true≢false}
use Prim.Native.Nat.{ℕ, ◌+◌, ◌≤◌, ◌<◌}
use native.Mathlib.Omega.{arith}
use lib.ListN.{length, get_or, take, drop, length-replicate, get_or-replicate, take-append-drop}
use lib.Dec.{leb, eqb}
use borrow.Author.Tests.{leb-true, eqb-true}
use Rattle.fixed.proofs.Bools.{and_left}
use Rattle.desk.specs.Sizes.{DESK}
use Rattle.block.specs.Sizes.{PORTS_AT, NETS_AT, ENDS_AT}
use Rattle.book.specs.Book.{Lists, Book, Seen, seen, valid, change, with_record, book_with, no_book, Item}
use Rattle.desk.specs.Desk.{Sound, book_of, seen_of, sized, at0}
use Rattle.block.specs.Block.{start}
use Rattle.desk.specs.Calls.{Call as Edit, says as edit_says, does as edit_does, makes as edit_makes}
use Rattle.desk.specs.Calls.Call.{add, retire, undo}
use Rattle.book.specs.declared.Kind.{Kind}
use Rattle.book.proofs.Fields.{answer-n, record-0}
use Rattle.book.proofs.Keeps.{lists-ok}
use Rattle.desk.proofs.Decode.{book-none}
use Rattle.desk.proofs.Changes.{keeps, stands-for}
use Rattle.desk.proofs.Longer.{lent-long, long-enough, book-lent, lent_by, sound-longer}
use Rattle.book.proofs.Builds.{Builds, none as none-built, one, builds}
use Rattle.page_text.specs.Reading.{read_text}
use Rattle.page_text.specs.Words.{REFUSAL, is_lent, read_number, read_words, read_refusal, text_words}
use Rattle.page_text.proofs.Turns.{decoded}
use Rattle.page_text.proofs.Limits.{length-text, ok-text, none-ok, valid-lists}
use Rattle.desk_search.proofs.Booked.{says-whole, shows-whole, same-search, same-shown}
use Rattle.desk_layout.proofs.Booked as Layout
use Rattle.clue_desk.specs.Calls.{Call, Lent, number, words, outputs, number_of, outputs_of, after, run, edit_undoes, is_undo, enough, says, tells, makes, told, told_outputs, turn, turns}
use Rattle.clue_desk.specs.Calls.{Empty, ActsAsBook, fresh, FreshIsEmpty, adding, surviving, rebuilt, Demand}
use Rattle.clue_desk.specs.Calls.Call.{edit, read, search, layout}
use Rattle.clue_desk.specs.Calls.Outputs.{lined, drawn}

-- ---- one call on a sound desk of which the first n words are lent
module _ (ws : List ℕ) (g : Sound ws) (n : ℕ) where
  is-lent : (out : List ℕ) → is_lent (take n ws) out ≡ enough n out
  unfolding is_lent enough
  is-lent out = ap (λ (b : Bool). b && leb REFUSAL (length out)) (long-enough ws n g.long)

  says_all : (c : Call) → number c (take n ws) ≡ says c n (seen_of ws)
  unfolding sized read_number
  says_all (edit c) = lent_by ws n g.long (λ (b : Bool) (s : Seen). cond b (edit_says c s) 1) (λ s t. refl)
  says_all (read text out) = ap (λ (b : Bool). cond b (read_text text).number 1) (is-lent out)
  says_all (search q o) = says-whole ws n g.long o q
  says_all (layout q d) = Layout.says-whole ws n g.long d q

  tells_all : (c : Call) → outputs c (take n ws) ≡ tells c n (seen_of ws)
  unfolding read_refusal
  tells_all (edit c) = refl
  tells_all (read text out) = rw (is-lent out)
  tells_all (search q o) = ap lined (shows-whole ws n g.long o q)
  tells_all (layout q d) = ap drawn (Layout.shows-whole ws n g.long d q)

  -- what a change leaves
  module _ (c : Edit) where
    abbrev changed : Bool → List ℕ
    changed b = cond b (edit_does c (take n ws)) (take n ws) ++ drop n ws

    at-0 : says (edit c) n (seen_of ws) ≡ 0 → (DESK ≤ n) × (edit_says c (seen_of ws) ≡ 0)
    at-0 e = go (leb DESK n) refl e
      where
        go : (b : Bool) → leb DESK n ≡ b → cond b (edit_says c (seen_of ws)) 1 ≡ 0 → (DESK ≤ n) × (edit_says c (seen_of ws) ≡ 0)
        go true t e = (leb-true DESK n t, e)
        go false t e = absurd (omega arith)

    changes : (b : Bool) → eqb (says (edit c) n (seen_of ws)) 0 ≡ b → (Sound (changed b)) × (book_of (changed b) ≡ cond b (edit_makes c (book_of ws)) (book_of ws))
    changes true t =
        let z = at-0 (eqb-true (says (edit c) n (seen_of ws)) 0 t) in
        let us : List ℕ = take n ws in
        let e : book_of us ≡ book_of ws = book-lent ws n g.long z.0 g.book in
        let v : valid (book_of us) ≡ true = ap valid e ∙ g.book in
        let said : edit_says c (seen_of us) ≡ 0 = ap (λ (b : Book). edit_says c (seen b)) e ∙ z.1 in
        let h = lent-long ws n g.long z.0 in
        let p = stands-for us h v c said in
        let s = sound-longer (edit_does c us) (drop n ws) (rw p.0 h) (ap valid p.1 ∙ keeps (book_of us) c v said) in
        (s.0, s.1 ∙ p.1 ∙ ap (edit_makes c) e)
    changes false t = rw (take-append-drop n ws) (g, refl)

  -- what a reading leaves
  module _ (text : List ℕ) where
    abbrev left : Bool → List ℕ
    left b = cond b (text_words text (take n ws)) (take n ws) ++ drop n ws

    reads : (out : List ℕ) (b : Bool) → enough n out ≡ b → (Sound (left b)) × (book_of (left b) ≡ cond b (book_with (read_text text).lists) (book_of ws))
    unfolding enough
    reads out true t =
        let us : List ℕ = take n ws in
        let h : DESK ≤ length us = lent-long ws n g.long (leb-true DESK n (and_left (leb DESK n) _ t)) in
        let e = decoded text us h in
        let s = sound-longer (text_words text us) (drop n ws) (rw (length-text text us h) h) (ap valid e ∙ valid-lists (read_text text).lists (ok-text text)) in
        (s.0, s.1 ∙ e)
    reads out false t = rw (take-append-drop n ws) (g, refl)

  leaves_all : (c : Call) → (Sound (words c (take n ws) ++ drop n ws)) × (book_of (words c (take n ws) ++ drop n ws) ≡ makes c n (book_of ws))
  unfolding at0 read_words
  leaves_all (edit c) = rw (says_all (edit c)) (changes c (eqb (says (edit c) n (seen_of ws)) 0) refl)
  leaves_all (read text out) = rw (is-lent out) (reads text out (enough n out) refl)
  leaves_all (search q o) = rw (take-append-drop n ws) (g, refl)
  leaves_all (layout q d) = rw (take-append-drop n ws) (g, refl)

-- ---- lists of calls
sound-after : (c : Lent) (ws : List ℕ) → Sound ws → (Sound (after c ws)) × (book_of (after c ws) ≡ turn c (book_of ws))
unfolding after turn
sound-after c ws g = leaves_all ws g c.size c.call

sound-run : (cs : List Lent) (ws : List ℕ) → Sound ws → Sound (run cs ws)
unfolding run
sound-run [] ws g = g
sound-run (c ∷ cs) ws g = sound-run cs (after c ws) (sound-after c ws g).0

book-run : (cs : List Lent) (ws : List ℕ) (b : Book) → Sound ws → book_of ws ≡ b → book_of (run cs ws) ≡ turns cs b
unfolding run turns
book-run [] ws b g e = e
book-run (c ∷ cs) ws b g e = book-run cs (after c ws) (turn c b) (sound-after c ws g).0 ((sound-after c ws g).1 ∙ ap (turn c) e)

empty-book : (ws : List ℕ) → Empty ws → book_of ws ≡ no_book
empty-book ws e = book-none ws e.depth e.counts

sound_empty : (ws : List ℕ) → Empty ws → Sound ws
sound_empty ws e = record { long = e.long; book = ap valid (empty-book ws e) ∙ valid-lists _ none-ok }

number-told : (ws : List ℕ) → Sound ws → (c : Lent) → number_of c ws ≡ told c (book_of ws)
unfolding number_of told
number-told ws g c = says_all ws g c.size c.call

outputs-told : (ws : List ℕ) → Sound ws → (c : Lent) → outputs_of c ws ≡ told_outputs c (book_of ws)
unfolding outputs_of told_outputs
outputs-told ws g c = tells_all ws g c.size c.call

pub acts : ActsAsBook
acts ws e cs =
    let g = sound-run cs ws (sound_empty ws e) in
    let b = book-run cs ws no_book (sound_empty ws e) (empty-book ws e) in
    (b, λ c. (number-told (run cs ws) g c ∙ ap (told c) b, outputs-told (run cs ws) g c ∙ ap (told_outputs c) b))

-- ---- all zeros
pub fresh-is-empty : FreshIsEmpty
unfolding fresh
fresh-is-empty n h = record { long = rw (length-replicate {A = ℕ} n 0) h; depth = zero-at 0 (omega arith); counts = counts }
  where
    zero-at : (i : ℕ) → i < DESK → get_or (fresh n) i 0 ≡ 0
    zero-at i l = get_or-replicate {A = ℕ} n i 0 0 (omega arith)

    counts : (k : Kind) → get_or (fresh n) (1 + start k) 0 ≡ 0
    counts Kind.Box = zero-at 1 (omega arith)
    counts Kind.Port = zero-at (1 + PORTS_AT) (omega arith)
    counts Kind.Net = zero-at (1 + NETS_AT) (omega arith)
    counts Kind.End = zero-at (1 + ENDS_AT) (omega arith)

-- ---- the surviving records, added one by one
added : (i : Item) (b : Book) → valid b ≡ true → says (edit (add i.kind i.row)) DESK (seen b) ≡ 0
    → (valid (turn (adding i) b) ≡ true) × ((turn (adding i) b).lists ≡ with_record i.kind i.row b.lists)
unfolding turn adding change
added i b v z =
    let t : turn (adding i) b ≡ edit_makes (add i.kind i.row) b = rw z in
    (ap valid t ∙ keeps b (add i.kind i.row) v z, ap (λ (a : Book). a.lists) t)

rebuilds : {l m : Lists} {is : List Item} → Builds l is m → (b : Book) → valid b ≡ true → b.lists ≡ l → (turns (map adding is) b).lists ≡ m
unfolding turns
rebuilds none-built b v e = e
rebuilds (one {i = i} o z rest) b v e =
    let said : says (edit (add i.kind i.row)) DESK (seen b) ≡ 0 = rw (v, e) (answer-n _ _ (record-0 i.kind i.row o) ∙ z) in
    let p = added i b v said in
    rebuilds rest (turn (adding i) b) p.0 (p.1 ∙ ap (with_record i.kind i.row) e)

-- ---- the number and the outputs of a call that is no undo go by the lists of a sound desk alone
module _ (a b : Seen) (v : a.sound ≡ b.sound) (e : a.lists ≡ b.lists) where
  same-edit : (c : Edit) → edit_undoes c ≡ false → edit_says c a ≡ edit_says c b
  same-edit (add k r) u = rw (v, e)
  same-edit (retire k name) u = rw (v, e)
  same-edit undo u = absurd (true≢false u)

  same-says : (c : Call) (n : ℕ) → is_undo c ≡ false → says c n a ≡ says c n b
  same-says (edit c) n u = ap (λ (m : ℕ). cond (leb DESK n) m 1) (same-edit c u)
  same-says (read text out) n u = refl
  same-says (search q o) n u = same-search a b v e n o q
  same-says (layout q d) n u = Layout.same_layout a b v e n d q

  same-tells : (c : Call) (n : ℕ) → tells c n a ≡ tells c n b
  same-tells (edit c) n = refl
  same-tells (read text out) n = refl
  same-tells (search q o) n = ap lined (same-shown a b v e n o q)
  same-tells (layout q d) n = ap drawn (Layout.same-shown a b v e n d q)

pub demand : Demand
unfolding rebuilt surviving told told_outputs
demand ws new e f cs =
    let r : List ℕ = run cs ws in
    let g : Sound r = sound-run cs ws (sound_empty ws e) in
    let l : Lists = (book_of r).lists in
    let t : List ℕ = run (surviving l) new in
    let h : Sound t = sound-run (surviving l) new (sound_empty new f) in
    let same : (book_of t).lists ≡ l =
    ap (λ (b : Book). b.lists) (acts new f (surviving l)).0 ∙ rebuilds (builds l (lists-ok (book_of r) g.book)) no_book (valid-lists _ none-ok) refl in
    let v : (seen_of r).sound ≡ (seen_of t).sound = g.book ∙ sym h.book in (
      same,
      λ c u. (
        number-told r g c ∙ same-says (seen_of r) (seen_of t) v (sym same) c.call c.size u ∙ sym (number-told t h c),
        outputs-told r g c ∙ same-tells (seen_of r) (seen_of t) v (sym same) c.call c.size ∙ sym (outputs-told t h c),
      ),
    )
