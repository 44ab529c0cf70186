-- Reading is adding line by line: accepted exactly if all lines go, refused exactly at the first that does not.
use mathlib.Core.Path.{◌≡◌, refl, ap, ◌∙◌}
use mathlib.Core.List.{List, [], ◌∷◌, ◌++◌}
use Prim.Native.Nat.{ℕ, suc, ◌+◌}
use mathlib.Core.Logic.{◌⊎◌, inl, inr, ⊎_elim}
use native.Mathlib.Omega.{arith}
use lib.ListN.{length}
use Rattle.book.specs.Book.{Lists, no_lists}
use Rattle.page_line.specs.Records.{Line}
use Rattle.page_line.specs.Lines.{text_lines}
use Rattle.page_text.specs.Reading.{Step, Reading, takes, adds, accepted, refused, onward, feed_in, feed, read_in}
use Rattle.page_text.specs.Law.{Goes, none, one, Accepts, Accepted, Refuses, Refused, Numbers}
use Rattle.std.specs.Prelude.{Ok, Err}

-- ---- what goes is accepted
feed-goes : (n : ℕ) (l m : Lists) (xs : List Line) → Goes l xs m → feed n l xs ≡ accepted m
unfolding feed_in onward
feed-goes n l m [] none = refl
feed-goes n l m (x ∷ xs) (one e g) = rw e (feed-goes (n + 1) (adds x l) m xs g)

pub accepts : Accepts
unfolding read_in
accepts text m g = feed-goes 0 no_lists m (text_lines text) g

-- ---- what is accepted goes
feed-all : (n : ℕ) (l : Lists) (xs : List Line) → (feed n l xs).number ≡ 0 → Goes l xs (feed n l xs).lists
unfolding feed_in onward
feed-all n l [] e = none
feed-all n l (x ∷ xs) e = go (takes x l) refl e (feed-all (n + 1) (adds x l) xs)
  where
    go : (s : Step) → takes x l ≡ s → (onward s (n + 1) (feed (n + 1) (adds x l) xs)).number ≡ 0
        → ((feed (n + 1) (adds x l) xs).number ≡ 0 → Goes (adds x l) xs (feed (n + 1) (adds x l) xs).lists)
        → Goes l (x ∷ xs) (onward s (n + 1) (feed (n + 1) (adds x l) xs)).lists
    go (Ok v) t e ih = one t (ih e)
    go (Err k) t e ih = absurd (omega arith)

pub accepted-goes : Accepted
unfolding read_in
accepted-goes text e = feed-all 0 no_lists (text_lines text) e

-- ---- the first bad line
record Stops (n : ℕ) (l : Lists) (xs : List Line) (line inner : ℕ) : Type 0 where
  good : List Line
  bad : Line
  rest : List Line
  lists : Lists
  whole : xs ≡ good ++ (bad ∷ rest)
  place : line ≡ n + length good + 1
  goes : Goes l good lists
  stops : takes bad lists ≡ Err inner

stops-feed : (n : ℕ) (l m : Lists) (good : List Line) (bad : Line) (rest : List Line) (inner : ℕ) → Goes l good m → takes bad m ≡ Err inner
    → feed n l (good ++ (bad ∷ rest)) ≡ refused (n + length good + 1) inner
unfolding feed_in onward
stops-feed n l m [] bad rest inner none t = let z : n + 0 + 1 ≡ n + 1 = omega arith in rw (t, z)
stops-feed n l m (x ∷ xs) bad rest inner (one e g) t =
    let z : n + suc (length xs) + 1 ≡ n + 1 + length xs + 1 = omega arith in rw (e, z) (stops-feed (n + 1) (adds x l) m xs bad rest inner g t)

pub refuses : Refuses
unfolding read_in
refuses text line inner b =
    let z : 0 + length b.good + 1 ≡ line = omega (arith, b.place) in
    ap (feed 0 no_lists) b.whole ∙ stops-feed 0 no_lists b.lists b.good b.bad b.rest inner b.goes b.stops
    ∙ ap (λ (k : ℕ). refused k inner) z

feed-stops : (n : ℕ) (l : Lists) (xs : List Line) → (feed n l xs).number ≡ 16 → Stops n l xs (feed n l xs).line (feed n l xs).inner
unfolding feed_in onward
feed-stops n l [] e = absurd (omega arith)
feed-stops n l (x ∷ xs) e = go (takes x l) refl e (feed-stops (n + 1) (adds x l) xs)
  where
    go : (s : Step) → takes x l ≡ s → (onward s (n + 1) (feed (n + 1) (adds x l) xs)).number ≡ 16
        → ((feed (n + 1) (adds x l) xs).number ≡ 16 → Stops (n + 1) (adds x l) xs (feed (n + 1) (adds x l) xs).line (feed (n + 1) (adds x l) xs).inner)
        → Stops n l (x ∷ xs) (onward s (n + 1) (feed (n + 1) (adds x l) xs)).line (onward s (n + 1) (feed (n + 1) (adds x l) xs)).inner
    go (Ok v) t e ih =
        let s = ih e in
        record {
          good = x ∷ s.good;
          bad = s.bad;
          rest = s.rest;
          lists = s.lists;
          whole = ap (λ (ys : List Line). x ∷ ys) s.whole;
          place = omega (arith, s.place);
          goes = one t s.goes;
          stops = s.stops;
        }
    go (Err k) t e ih =
        record { good = []; bad = x; rest = xs; lists = l; whole = refl; place = omega arith; goes = none; stops = t }

pub refused-first : Refused
unfolding read_in
refused-first text e =
    let s = feed-stops 0 no_lists (text_lines text) e in
    record { good = s.good; bad = s.bad; rest = s.rest; lists = s.lists; whole = s.whole; place = omega (arith, s.place); goes = s.goes; stops = s.stops }

-- ---- 0 with zeros told, or 16
abbrev pub Done : Reading → Type 0
Done r = (r.number ≡ 0) × (r.line ≡ 0) × (r.inner ≡ 0)

pub feed-number : (n : ℕ) (l : Lists) (xs : List Line) → Done (feed n l xs) ⊎ ((feed n l xs).number ≡ 16)
unfolding feed_in onward
feed-number n l [] = inl (refl, refl, refl)
feed-number n l (x ∷ xs) = go (takes x l) (feed-number (n + 1) (adds x l) xs)
  where
    go : (s : Step) → Done (feed (n + 1) (adds x l) xs) ⊎ ((feed (n + 1) (adds x l) xs).number ≡ 16)
        → Done (onward s (n + 1) (feed (n + 1) (adds x l) xs)) ⊎ ((onward s (n + 1) (feed (n + 1) (adds x l) xs)).number ≡ 16)
    go (Ok v) p = p
    go (Err k) p = inr refl

pub numbers : Numbers
unfolding read_in
numbers text h = ⊎_elim (λ p. absurd (h p.0)) (λ p. p) (feed-number 0 no_lists (text_lines text))
