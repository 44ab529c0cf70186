-- Other names for the ids: the book gives the same numbers, and so does the desk, which acts as the book.
use mathlib.Core.Path.{◌≡◌, refl, sym, ap, ◌∙◌}
use mathlib.Core.List.{List, [], ◌∷◌, map}
use mathlib.Core.Bool.{Bool, true, false, cond}
use Prim.Native.Nat.{ℕ}
use lib.ListN.{length-map}
use lib.Dec.{eqb, leb}
use Rattle.rows.specs.Rows.{key}
use Rattle.book.specs.Book.{Book, seen, no_book, with_record, without_record}
use Rattle.book.specs.Renamed.{Renames, renamed_lists, renamed_book}
use Rattle.book.proofs.Renamed.{key-renamed, fields-number, valid-renamed, add-number, name-number, retire-number, with-renamed, without-renamed, change-renamed, back-renamed}
use Rattle.desk.specs.Sizes.{DESK}
use Rattle.desk.specs.Calls.{Call as Edit, says as edit_says, makes as edit_makes}
use Rattle.desk.specs.Calls.Call.{add, retire, undo}
use Rattle.clue_desk.specs.Calls.{told, turn, turns}
use Rattle.clue_desk.specs.Renamed.{Change, call, changed, renamed_edit, renamed_change, LongIds}
use Rattle.clue_desk.proofs.Demand.{acts}

module _ (f : ℕ → ℕ) (q : Renames f) where
  lists_of : (b : Book) → (renamed_book f b).lists ≡ renamed_lists f b.lists
  unfolding renamed_book
  lists_of b = refl

  pile-of : (b : Book) → (renamed_book f b).pile ≡ map (renamed_lists f) b.pile
  unfolding renamed_book
  pile-of b = refl

  none-renamed : renamed_book f no_book ≡ no_book
  unfolding renamed_book renamed_lists
  none-renamed = refl

  -- ---- one change
  says-renamed : (e : Edit) (b : Book) → edit_says (renamed_edit f e) (seen (renamed_book f b)) ≡ edit_says e (seen b)
  unfolding renamed_edit
  says-renamed (add k r) b = rw (valid-renamed f q b, fields-number f q k r, key-renamed f q r, lists_of b, add-number f q k b.lists (key r))
  says-renamed (retire k name) b = rw (valid-renamed f q b, name-number f q k name, lists_of b, retire-number f q k b.lists name)
  says-renamed undo b = rw (valid-renamed f q b, pile-of b, length-map b.pile (renamed_lists f))

  makes-renamed : (e : Edit) (b : Book) → edit_makes (renamed_edit f e) (renamed_book f b) ≡ renamed_book f (edit_makes e b)
  unfolding renamed_edit renamed_book
  makes-renamed (add k r) b = rw (lists_of b, with-renamed f q k r b.lists) (change-renamed f q b (with_record k r b.lists))
  makes-renamed (retire k name) b = rw (lists_of b, without-renamed f q k name b.lists) (change-renamed f q b (without_record k name b.lists))
  makes-renamed undo b = rw (pile-of b) (back-renamed f q b b.pile)

  -- ---- lists of changes
  turn-renamed : (c : Change) (b : Book) → turn (call (renamed_change f c)) (renamed_book f b) ≡ renamed_book f (turn (call c) b)
  unfolding turn
  turn-renamed c b = rw (says-renamed c.change b, makes-renamed c.change b) (go (eqb (cond (leb DESK c.size) (edit_says c.change (seen b)) 1) 0))
    where
      go : (t : Bool) → cond t (renamed_book f (edit_makes c.change b)) (renamed_book f b) ≡ renamed_book f (cond t (edit_makes c.change b) b)
      go true = refl
      go false = refl

  turns-renamed : (cs : List Change) (b : Book) → turns (map call (map (renamed_change f) cs)) (renamed_book f b) ≡ renamed_book f (turns (map call cs) b)
  unfolding turns
  turns-renamed [] b = refl
  turns-renamed (c ∷ cs) b = ap (turns (map call (map (renamed_change f) cs))) (turn-renamed c b) ∙ turns-renamed cs (turn (call c) b)

  all_renamed : (cs : List Change) → turns (map call (map (renamed_change f) cs)) no_book ≡ renamed_book f (turns (map call cs) no_book)
  all_renamed cs = ap (turns (map call (map (renamed_change f) cs))) (sym none-renamed) ∙ turns-renamed cs no_book

  told-renamed : (c : Change) (b : Book) → told (call (renamed_change f c)) (renamed_book f b) ≡ told (call c) b
  unfolding told
  told-renamed c b = rw (says-renamed c.change b)

pub long-ids : LongIds
unfolding changed
long-ids f q ws new ew en cs =
    let now = acts ws ew (map call cs) in
    let then = acts new en (map call (map (renamed_change f) cs)) in
    let all = all_renamed f q cs in
    let same-book = then.0 ∙ all ∙ ap (renamed_book f) (sym now.0) in
    let told-as : (c : Change) → told (call (renamed_change f c)) (turns (map call (map (renamed_change f) cs)) no_book) ≡ told (call c) (turns (map call cs) no_book)
    = λ c. ap (told (call (renamed_change f c))) all ∙ told-renamed f q c (turns (map call cs) no_book) in
    (same-book, λ c. (then.1 (call (renamed_change f c))).0 ∙ told-as c ∙ sym (now.1 (call c)).0)
