-- The loop over lines by what is left of the text: on the lists and in the words. A line that goes adds a record, so that few lines go.
use mathlib.Core.Path.{◌≡◌, refl, sym, ap, ◌∙◌}
use mathlib.Core.List.{List, [], ◌∷◌}
use mathlib.Core.Bool.{Bool, true, false, cond}
use Prim.Native.Nat.{ℕ, ◌+◌, ◌≤◌, ◌<◌}
use native.Mathlib.Omega.{arith}
use lib.ListN.{length, drop, length-append, drop_of_length-le}
use lib.Dec.{eqb}
use borrow.Author.Tests.{eq-eqb, eqb-true}
use Rattle.decimals.specs.Bytes.{LF, split, place}
use Rattle.decimals.specs.Decimal.{is_empty}
use Rattle.rows.specs.Rows.{count}
use Rattle.book.specs.declared.Kind.{Kind}
use Rattle.desk.specs.Sizes.{DESK}
use Rattle.book.specs.Book.{Record, Lists, book_with, width, most, take_number, with_record}
use Rattle.desk.specs.Desk.{Ready, at0, block, book_of, emptied, taken}
use Rattle.block.specs.Block.{area, lists_of}
use Rattle.block.proofs.Blocks.{length-list, room_0, take-room}
use Rattle.desk.proofs.Decode.{Settled, book-settled, book-emptied, lists-emptied, settled-emptied, lists-taken, settled-taken, length_taken, ready-emptied, ready-taken}
use Rattle.page_line.specs.Records.{Line, entry, malformed}
use Rattle.page_line.specs.Lines.{line_at, lines_in, text_lines_in, text_lines}
use Rattle.page_line.proofs.Lines.{line-end, line_first}
use Rattle.page_line.proofs.Wide.{Wide, AllWide, wide_at, wide-lines}
use Rattle.page_text.specs.Reading.{Step, step_of, takes_in, takes, adds, Reading, accepted, refused, onward, feed_in, feed, read_in, read_text}
use Rattle.page_text.specs.Words.{leaves, onward_words, feed_words, text_words, stop_of}
use Rattle.page_text.specs.Law.{Decoded}
use Rattle.std.specs.Prelude.{Result, Ok, Err}
use Rattle.page_text.specs.declared.Stop.{Stop}

-- ---- a line that goes
pub bad-went : {A : Type 0} (n : ℕ) → ◌≡◌ {A = Step} (Err n) (Ok tt) → A
bad-went n e = let z : ◌≡◌ {A = ℕ} 0 1 = cc in absurd (omega arith)

pub step-0 : (n : ℕ) → step_of n ≡ Ok tt → n ≡ 0
unfolding step_of
step-0 n e = go (eqb n 0) refl e
  where
    go : (b : Bool) → eqb n 0 ≡ b → ◌≡◌ {A = Step} (cond b (Ok tt) (Err n)) (Ok tt) → n ≡ 0
    go true q e = eqb-true n 0 q
    go false q e = bad-went n e

-- its record has room in its list
module _ (k : Kind) (r : Record) (ws : List ℕ) (e : take_number k r (lists_of (block ws)) ≡ 0) where
  has_room : count (area k (block ws)) < most k
  has_room = room_0 k (block ws) (take-room k (block ws) r _ refl e)

  is-taken : leaves (entry k r) ws ≡ taken k r ws
  unfolding leaves at0
  is-taken = rw e

-- what it leaves: a desk with its record put last
pub record After (x : Line) (ws ws' : List ℕ) : Type 0 where
  pub ready : Ready ws'
  pub long : length ws' ≡ length ws
  pub lists : lists_of (block ws') ≡ adds x (lists_of (block ws))
  pub settled : Settled ws → Settled ws'

after-taken : (k : Kind) (r : Record) (ws : List ℕ) → Ready ws → length r ≡ width k → take_number k r (lists_of (block ws)) ≡ 0 → After (entry k r) ws (leaves (entry k r) ws)
unfolding adds
after-taken k r ws ready hw e =
    let room = has_room k r ws e in
    rw (is-taken k r ws e)
    (record { ready = ready-taken k r ws ready hw room; long = length_taken k r ws ready hw room; lists = lists-taken k r ws ready hw room; settled = settled-taken k r ws ready hw room })

pub after : (x : Line) (ws : List ℕ) → Ready ws → Wide x → takes x (lists_of (block ws)) ≡ Ok tt → After x ws (leaves x ws)
unfolding takes_in
after (entry k r) ws ready hw e = after-taken k r ws ready hw (step-0 (take_number k r (lists_of (block ws))) e)
after malformed ws ready hw e = bad-went 0 e

-- ---- how many records there are
unfoldable pub total : Lists → ℕ
total l = length l.boxes + length l.ports + length l.nets + length l.ends

total-with : (k : Kind) (r : Record) (l : Lists) → total (with_record k r l) ≡ total l + 1
unfolding total with_record
total-with Kind.Box r l = rw (length-append l.boxes (r ∷ [])) (omega arith)
total-with Kind.Port r l = rw (length-append l.ports (r ∷ [])) (omega arith)
total-with Kind.Net r l = rw (length-append l.nets (r ∷ [])) (omega arith)
total-with Kind.End r l = rw (length-append l.ends (r ∷ [])) (omega arith)

pub total-adds : (x : Line) (l : Lists) → takes x l ≡ Ok tt → total (adds x l) ≡ total l + 1
unfolding adds takes_in
total-adds (entry k r) l e = total-with k r l
total-adds malformed l e = bad-went 0 e

total-few : (ws : List ℕ) → Ready ws → total (lists_of (block ws)) ≤ 640
unfolding total lists_of
total-few ws ready =
    let b = length-list Kind.Box (block ws) in
    let p = length-list Kind.Port (block ws) in
    let n = length-list Kind.Net (block ws) in
    let e = length-list Kind.End (block ws) in
    omega (arith, ready.counted.few Kind.Box, ready.counted.few Kind.Port, ready.counted.few Kind.Net, ready.counted.few Kind.End)

-- ---- what the loop keeps: n lines went, the next starts at `at`
pub record Read (text start ws : List ℕ) (at n : ℕ) : Type 0 where
  pub inside : at ≤ length text
  pub few : n ≡ total (lists_of (block ws))
  pub ready : Ready ws
  pub kept : length ws ≡ length start
  pub lists : feed n (lists_of (block ws)) (text_lines (drop at text)) ≡ read_text text
  pub words : feed_words ws (text_lines (drop at text)) ≡ feed_words start (text_lines text)

pub lines-few : (text start ws : List ℕ) (at n : ℕ) → Read text start ws at n → n ≤ 640
lines-few text start ws at n r = omega (arith, r.few, total-few ws r.ready)

pub read_first : (text given start : List ℕ) → DESK ≤ length given → start ≡ emptied given → Read text start start 0 0
unfolding read_in total
read_first text given start h e =
    record {
      inside = omega arith;
      few = rw (e, lists-emptied given) refl;
      ready = rw e (ready-emptied given h);
      kept = refl;
      lists = rw (e, lists-emptied given) refl;
      words = refl;
    }

-- ---- a turn
bad-end : (text : List ℕ) (at e : ℕ) (l : Lists) → takes (line_at text at e) l ≡ Ok tt → (e ≡ length text → ⊥)
unfolding line_at takes_in
bad-end text at e l w h = bad-went 0 (rw (eq-eqb e (length text) h) at w)

module _ (text ws ws' start : List ℕ) (at e n : ℕ) (s : Step) (r : Read text start ws at n) (found : e ≡ at + place LF (drop at text)) (h : at < length text)
    (es : s ≡ takes (line_at text at e) (lists_of (block ws))) (ew : ws' ≡ leaves (line_at text at e) ws) where
  rest : text_lines (drop at text) ≡ line_at text at e ∷ text_lines (drop (e + 1) text)
  unfolding text_lines_in
  rest = line_first text at e found h

  lists-here : read_text text ≡ onward s (n + 1) (feed (n + 1) (adds (line_at text at e) (lists_of (block ws))) (text_lines (drop (e + 1) text)))
  unfolding feed_in
  lists-here = sym r.lists ∙ ap (feed n (lists_of (block ws))) rest ∙ rw (← es)

  words-here : feed_words start (text_lines text) ≡ onward_words s ws' (feed_words ws' (text_lines (drop (e + 1) text)))
  unfolding feed_words
  words-here = sym r.words ∙ ap (feed_words ws) rest ∙ rw (← es, ← ew)

  pub turn_on : s ≡ Ok tt → Read text start ws' (e + 1) (n + 1)
  unfolding onward onward_words
  turn_on g =
      let w : takes (line_at text at e) (lists_of (block ws)) ≡ Ok tt = sym es ∙ g in
      let a : After (line_at text at e) ws ws' = rw ew (after (line_at text at e) ws r.ready (wide_at text at e) w) in
      let l = a.lists in
      let m = bad-end text at e (lists_of (block ws)) w in
      record {
        inside = omega (arith, line-end text at e found h, m);
        few = ap (λ (k : ℕ). k + 1) r.few ∙ sym (total-adds (line_at text at e) (lists_of (block ws)) w) ∙ ap total (sym l);
        ready = a.ready;
        kept = a.long ∙ r.kept;
        lists = rw l (sym (lists-here ∙ rw g));
        words = sym (words-here ∙ rw g);
      }

  pub turn-bad : (k : ℕ) → s ≡ Err k → (read_text text ≡ refused (n + 1) k) × (feed_words start (text_lines text) ≡ emptied ws')
  unfolding onward onward_words
  turn-bad k g = (lists-here ∙ rw g, words-here ∙ rw g)

no_more : (text : List ℕ) (at : ℕ) → length text ≤ at → text_lines (drop at text) ≡ []
unfolding text_lines_in lines_in split is_empty
no_more text at h = rw (drop_of_length-le text h)

pub turn_end : (text ws start : List ℕ) (at n : ℕ) → Read text start ws at n → length text ≤ at
    → (read_text text ≡ accepted (lists_of (block ws))) × (feed_words start (text_lines text) ≡ ws)
unfolding feed_in feed_words
turn_end text ws start at n r h =
    let e = no_more text at h in
    (sym r.lists ∙ ap (feed n (lists_of (block ws))) e, sym r.words ∙ ap (feed_words ws) e)

-- ---- what is told at the end
pub finish : (text start given w : List ℕ) (s : Result (Unit {0}) Stop) (o : Reading) → start ≡ emptied given → (read_text text ≡ o) × (feed_words start (text_lines text) ≡ w)
    → s ≡ stop_of o → (s ≡ stop_of (read_text text)) × (w ≡ text_words text given)
unfolding text_words
finish text start given w s o es p e = (e ∙ ap stop_of (sym p.0), sym p.1 ∙ ap (λ (t : List ℕ). feed_words t (text_lines text)) es)

pub stop-none : (l : Lists) → Ok tt ≡ stop_of (accepted l)
unfolding stop_of
stop-none l = refl

pub stop-at : (n k : ℕ) → Err (record { line = n; inner = k }) ≡ stop_of (refused n k)
unfolding stop_of
stop-at n k = refl

-- ---- the words hold the lists that were read
feed-decoded : (n : ℕ) (ws : List ℕ) (xs : List Line) → Ready ws → AllWide xs → Settled ws
    → book_of (feed_words ws xs) ≡ book_with (feed n (lists_of (block ws)) xs).lists
unfolding feed_in feed_words onward onward_words
feed-decoded n ws [] ready w e = book-settled ws e
feed-decoded n ws (x ∷ xs) ready w e = go (takes x (lists_of (block ws))) refl (λ a p. feed-decoded (n + 1) (leaves x ws) xs a.ready w.1 p)
  where
    go : (s : Step) → takes x (lists_of (block ws)) ≡ s
        → (After x ws (leaves x ws) → Settled (leaves x ws)
        → book_of (feed_words (leaves x ws) xs) ≡ book_with (feed (n + 1) (lists_of (block (leaves x ws))) xs).lists)
        → book_of (onward_words s (leaves x ws) (feed_words (leaves x ws) xs))
        ≡ book_with (onward s (n + 1) (feed (n + 1) (adds x (lists_of (block ws))) xs)).lists
    go (Ok v) t ih =
        let a = after x ws ready w.0 t in
        ih a (a.settled e)
        ∙ ap (λ (l : Lists). book_with (feed (n + 1) l xs).lists) a.lists
    go (Err k) t ih = book-emptied (leaves x ws)

pub decoded : Decoded
unfolding text_words read_in
decoded text ws h =
    feed-decoded 0 (emptied ws) (text_lines text) (ready-emptied ws h) (wide-lines text) (settled-emptied ws)
    ∙ ap (λ (l : Lists). book_with (feed 0 l (text_lines text)).lists) (lists-emptied ws)
