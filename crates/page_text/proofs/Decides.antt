-- The first 641 lines of 96 bytes decide: each line that goes is a record more, and there is no room for 641.
use mathlib.Core.Path.{◌≡◌, refl, sym, ap, ◌∙◌}
use mathlib.Core.List.{List, [], ◌∷◌}
use mathlib.Core.Bool.{Bool, true, false, cond}
use Prim.Native.Nat.{ℕ, zero, suc, ◌+◌, ◌-◌, ◌*◌, ◌≤◌, ◌<◌}
use native.Mathlib.Omega.{arith}
use lib.ListN.{length, take, drop, length-take}
use lib.Seq.{take_all, take-take, length-take-le}
use lib.Dec.{eqb, ltb}
use borrow.Author.Tests.{ne_eqb, ltb-true, ltb-false}
use Rattle.decimals.specs.Bytes.{LF, place}
use Rattle.decimals.proofs.Split.{place-le}
use Rattle.rows.proofs.Rows.{take-drop}
use Rattle.book.specs.declared.Kind.{Kind}
use Rattle.book.specs.Book.{Lists, no_lists, ok_lists}
use Rattle.book.proofs.Keeps.{boxes-ok, nets-ok, ports-ok, ends-ok, owners-few, members-few}
use Rattle.page_line.specs.Records.{malformed}
use Rattle.page_line.specs.Lines.{LINE, line_at, text_lines_in, text_lines}
use Rattle.page_line.proofs.Lines.{at_none, at_long, line_first}
use Rattle.page_text.specs.Reading.{Step, takes_in, takes, adds, refused, onward, feed_in, feed, read_in}
use Rattle.page_text.specs.Law.{TEXT, Decides}
use Rattle.std.specs.Prelude.{Ok, Err}
use Rattle.page_text.proofs.Turns.{total, total-adds}
use Rattle.page_text.proofs.Limits.{ok-adds, none-ok}

-- ---- the first place of a byte, in the first k bytes
place-front : (s : ℕ) (xs : List ℕ) (k : ℕ) → place s xs < k → place s (take k xs) ≡ place s xs
unfolding place
place-front s [] zero h = refl
place-front s [] (suc k) h = refl
place-front s (x ∷ xs) zero h = absurd (omega arith)
place-front s (x ∷ xs) (suc k) h = go (eqb x s) h (place-front s xs k)
  where
    go : (b : Bool) → cond b 0 (suc (place s xs)) < suc k → (place s xs < k → place s (take k xs) ≡ place s xs)
        → cond b 0 (suc (place s (take k xs))) ≡ cond b 0 (suc (place s xs))
    go true h ih = refl
    go false h ih = ap suc (ih (omega arith))

place-beyond : (s : ℕ) (xs : List ℕ) (m k : ℕ) → m ≤ place s xs → m ≤ k → m ≤ place s (take k xs)
unfolding place
place-beyond s xs zero k h l = omega arith
place-beyond s [] (suc m) k h l = absurd (omega arith)
place-beyond s (x ∷ xs) (suc m) zero h l = absurd (omega arith)
place-beyond s (x ∷ xs) (suc m) (suc k) h l = go (eqb x s) h (place-beyond s xs m k)
  where
    go : (b : Bool) → suc m ≤ cond b 0 (suc (place s xs)) → (m ≤ place s xs → m ≤ k → m ≤ place s (take k xs)) → suc m ≤ cond b 0 (suc (place s (take k xs)))
    go true h ih = absurd (omega arith)
    go false h ih = omega (arith, ih (omega arith) (omega arith))

-- ---- a first line that is too long, ended or not
long-line : (xs : List ℕ) → LINE ≤ place LF xs → line_at xs 0 (place LF xs) ≡ malformed
long-line xs h = go (ltb (place LF xs) (length xs)) refl
  where
    go : (b : Bool) → ltb (place LF xs) (length xs) ≡ b → line_at xs 0 (place LF xs) ≡ malformed
    go true q =
        let l : place LF xs < length xs = ltb-true (place LF xs) (length xs) q in
        let z : place LF xs - 0 ≡ place LF xs = omega arith in
        sym (at_long xs 0 (place LF xs) (place LF xs) (λ e. omega arith) (rw z (length-take-le (place LF xs) xs (omega arith))) h)
    go false q = sym (at_none xs 0 (place LF xs) (omega (arith, place-le LF xs, ltb-false (place LF xs) (length xs) q)))

first-lines : (xs : List ℕ) → 0 < length xs → text_lines xs ≡ line_at xs 0 (place LF xs) ∷ text_lines (drop (place LF xs + 1) xs)
unfolding text_lines_in
first-lines xs h = line_first xs 0 (place LF xs) (omega arith) h

long-refused : (n : ℕ) (l : Lists) (xs : List ℕ) → LINE ≤ place LF xs → feed n l (text_lines xs) ≡ refused (n + 1) 0
unfolding feed_in onward takes_in
long-refused n l xs h = rw (first-lines xs (omega (arith, place-le LF xs)), long-line xs h)

-- ---- a first line that an LF ends within the first k bytes
module _ (xs : List ℕ) (k : ℕ) (h : place LF xs < length xs) (g : place LF xs < k) where
  abbrev e : ℕ
  e = place LF xs

  front-line : line_at (take k xs) 0 e ≡ line_at xs 0 e
  unfolding line_at
  front-line =
      let z : e - 0 ≡ e = omega arith in
      rw (ne_eqb e (length (take k xs)) (λ q. omega (arith, length-take k xs)), ne_eqb e (length xs) (λ q. omega arith), z, take-take e k xs (omega arith))

  front_rest : drop (e + 1) (take k xs) ≡ take (k - (e + 1)) (drop (e + 1) xs)
  front_rest =
      let z : e + 1 + (k - (e + 1)) ≡ k = omega arith in
      sym (take-drop (e + 1) (k - (e + 1)) xs ∙ rw z)

  front-lines : text_lines (take k xs) ≡ line_at xs 0 e ∷ text_lines (take (k - (e + 1)) (drop (e + 1) xs))
  front-lines =
      first-lines (take k xs) (omega (arith, length-take k xs)) ∙ rw (place-front LF xs k g, front-line, front_rest)

-- ---- the records that there are
few : (l : Lists) → ok_lists l ≡ true → total l ≤ 640
unfolding total
few l ok =
    omega (arith, owners-few Kind.Box l.boxes (boxes-ok l ok), members-few Kind.Port l.ports l.boxes (ports-ok l ok), owners-few Kind.Net l.nets (nets-ok l ok), members-few Kind.End l.ends l.nets (ends-ok l ok))

-- with room for fewer than m more, m lines decide
feed-front : (m n k : ℕ) (l : Lists) (xs : List ℕ) → ok_lists l ≡ true → total l + m ≡ 641 → m * LINE ≤ k → feed n l (text_lines (take k xs)) ≡ feed n l (text_lines xs)
unfolding feed_in onward
feed-front zero n k l xs ok t h = absurd (omega (arith, few l ok))
feed-front (suc m) n k l xs ok t h =
    by (ltb (place LF xs) LINE) refl (ltb (place LF xs) (length xs)) refl (λ y o s. feed-front m (n + 1) (k - (place LF xs + 1)) y (drop (place LF xs + 1) xs) o s)
  where
    rest : List ℕ
    rest = drop (place LF xs + 1) xs

    by : (a : Bool) → ltb (place LF xs) LINE ≡ a → (b : Bool) → ltb (place LF xs) (length xs) ≡ b
        → ((y : Lists) → ok_lists y ≡ true → total y + m ≡ 641 → m * LINE ≤ k - (place LF xs + 1) → feed (n + 1) y (text_lines (take (k - (place LF xs + 1)) rest)) ≡ feed (n + 1) y (text_lines rest))
        → feed n l (text_lines (take k xs)) ≡ feed n l (text_lines xs)
    by false p b q ih =
        let g : LINE ≤ place LF xs = ltb-false (place LF xs) LINE p in
        long-refused n l (take k xs) (place-beyond LF xs LINE k g (omega arith)) ∙ sym (long-refused n l xs g)
    by true p false q ih =
        let g : length xs ≤ place LF xs = ltb-false (place LF xs) (length xs) q in
        rw (take_all k xs (omega (arith, ltb-true (place LF xs) LINE p)))
    by true p true q ih =
        let f : place LF xs < LINE = ltb-true (place LF xs) LINE p in
        let g : place LF xs < length xs = ltb-true (place LF xs) (length xs) q in
        rw (front-lines xs k g (omega arith), first-lines xs (omega arith)) (on (takes (line_at xs 0 (place LF xs)) l) refl f ih)
      where
        on : (s : Step) → takes (line_at xs 0 (place LF xs)) l ≡ s → place LF xs < LINE
            → ((y : Lists) → ok_lists y ≡ true → total y + m ≡ 641 → m * LINE ≤ k - (place LF xs + 1) → feed (n + 1) y (text_lines (take (k - (place LF xs + 1)) rest)) ≡ feed (n + 1) y (text_lines rest))
            → onward s (n + 1) (feed (n + 1) (adds (line_at xs 0 (place LF xs)) l) (text_lines (take (k - (place LF xs + 1)) rest)))
            ≡ onward s (n + 1) (feed (n + 1) (adds (line_at xs 0 (place LF xs)) l) (text_lines rest))
        on (Ok v) u f ih = ih (adds (line_at xs 0 (place LF xs)) l) (ok-adds (line_at xs 0 (place LF xs)) l ok u) (omega (arith, total-adds (line_at xs 0 (place LF xs)) l u)) (omega arith)
        on (Err i) u f ih = refl

pub decides : Decides
unfolding read_in total
decides text = feed-front 641 0 TEXT no_lists text none-ok refl (omega arith)
