-- One turn of each loop over tracks, as an equation of the definitions of specs/Tracks.
use Prim.Native.Nat.{ℕ, zero, suc, ◌+◌, ◌/◌, ◌%◌, ◌≤◌, ◌<◌}
use mathlib.Core.Path.{◌≡◌, refl, sym, ap, ◌∙◌}
use mathlib.Core.Bool.{Bool, true, false, cond, not}
use Rattle.std.specs.List.{position, position_or_len}
use Rattle.std.specs.Option.{unwrap_or}
use Rattle.std.specs.Prelude.{Option, Some, None}
use mathlib.Core.List.{List, [], ◌∷◌, ◌++◌}
use native.Mathlib.Numerals.{add-one}
use native.Mathlib.Omega.{arith}
use native.Mathlib.Nat.{eq-or-lt_of_le, le_of_suc-le-suc}
use lib.Dec.{ltb, eqb}
use lib.ListN.{length, get_or, set, take, replicate, length-set, length-replicate, length-append, get_or-append}
use mathlib.Core.Logic.{⊎_elim}
use lib.Seq.{get_or-take, get_or_at, take-suc-set}
use borrow.Author.Tests.{lt-ltb, le-ltb, ne_eqb, eqb-true, eqb-false, ltb-true, ltb-false}
use Rattle.tracks.specs.Corridors.{Pairs, corridor_of}
use Rattle.tracks.specs.Tracks.{corridor_start, Rising, From, clash, marks, first_clear, track_at, tracks_to, Tracked}

-- ---- the first clear mark

clear-is : (l : List Bool) → position_or_len not l ≡ first_clear l
unfolding first_clear
clear-is [] = refl
clear-is (true ∷ l) = omega (arith, clear-is l)
clear-is (false ∷ l) = refl

clear-le : (l : List Bool) → first_clear l ≤ length l
unfolding first_clear
clear-le [] = omega arith
clear-le (true ∷ l) = omega (arith, clear-le l)
clear-le (false ∷ l) = omega arith

pub clear-found : (l : List Bool) (r : Option ℕ) → r ≡ position not l → unwrap_or r (length l) ≡ first_clear l
clear-found l r e = rw e (go (ltb (position_or_len not l) (length l)) refl)
  where
    go : (b : Bool) → ltb (position_or_len not l) (length l) ≡ b → unwrap_or (cond b (Some (position_or_len not l)) None) (length l) ≡ first_clear l
    go true h = clear-is l
    go false h = omega (arith, ltb-false _ _ h, clear-is l, clear-le l)

-- ---- clashes and marks

module _ (low high : List ℕ) (a b : ℕ) where
  pub clash-apart : (a / 2048 ≡ b / 2048 → ⊥) → false ≡ clash low high a b
  unfolding clash
  clash-apart h = rw (ne_eqb _ _ h)

module _ (P : Pairs) (ts : List ℕ) (a : ℕ) where
  module _ (q : ℕ) (used : List Bool) (inv : used ≡ marks P ts a q) (b : ℕ) (eb : b ≡ get_or P.keys q 0) (r : Bool) (er : r ≡ clash P.low P.high a b) where
    pub marks-more : r ≡ true → (t : ℕ) → t ≡ get_or ts q 0 → set used t true ≡ marks P ts a (q + 1)
    unfolding marks
    marks-more e t et = rw (add-one, ← eb, ← er, e, ← inv, ← et)

    pub marks-same : r ≡ false → used ≡ marks P ts a (q + 1)
    unfolding marks
    marks-same e = rw (add-one, ← eb, ← er, e) inv

-- no earlier pair outside the corridor sets a mark
pub marks-skip : (P : Pairs) (ts : List ℕ) (a q : ℕ) → ((p : ℕ) → p < q → corridor_of (get_or P.keys p 0) ≡ corridor_of a → ⊥) → replicate 512 false ≡ marks P ts a q
unfolding marks
marks-skip P ts a zero h = refl
marks-skip P ts a (suc q) h =
    rw (← clash-apart P.low P.high a (get_or P.keys q 0) (λ e. h q (omega arith) (sym e))) (marks-skip P ts a q (λ p l. h p (omega arith)))

pub length-marks : (P : Pairs) (ts : List ℕ) (a k : ℕ) → length (marks P ts a k) ≡ 512
unfolding marks
length-marks P ts a zero = length-replicate 512 false
length-marks P ts a (suc k) = go (clash P.low P.high a (get_or P.keys k 0)) (length-marks P ts a k)
  where
    go : (c : Bool) → length (marks P ts a k) ≡ 512 → length (cond c (set (marks P ts a k) (get_or ts k 0) true) (marks P ts a k)) ≡ 512
    go true e = length-set (marks P ts a k) (get_or ts k 0) true ∙ e
    go false e = e

-- ---- the track

module _ (P : Pairs) (ts : List ℕ) (k : ℕ) where
  module _ (a : ℕ) (ea : a ≡ get_or P.keys k 0) where
    pub track-locked : a % 2048 < 512 → 0 ≡ track_at P ts k
    unfolding track_at
    track-locked h = rw (← ea, lt-ltb _ _ h)

    pub track-first : 512 ≤ a % 2048 → (q : ℕ) → q ≡ k → (used : List Bool) (r : ℕ) → used ≡ marks P ts a q → r ≡ first_clear used → r ≡ track_at P ts k
    unfolding track_at
    track-first h q e used r eu er = er ∙ rw (← ea, le-ltb _ _ h, eu, e)

-- ---- no track is above the number of earlier pairs

abbrev bit : Bool → ℕ
bit true = 1
bit false = 0

cnt : List Bool → ℕ
cnt [] = 0
cnt (b ∷ l) = bit b + cnt l

cnt-set : (l : List Bool) (i : ℕ) → cnt (set l i true) ≤ suc (cnt l)
unfolding cnt
cnt-set [] i = omega arith
cnt-set (true ∷ l) zero = omega arith
cnt-set (false ∷ l) zero = omega arith
cnt-set (b ∷ l) (suc i) = omega (arith, cnt-set l i)

cnt-none : (n : ℕ) → cnt (replicate n false) ≡ 0
unfolding cnt
cnt-none zero = refl
cnt-none (suc n) = omega (arith, cnt-none n)

first-le : (l : List Bool) → first_clear l ≤ cnt l
unfolding first_clear cnt
first-le [] = omega arith
first-le (true ∷ l) = omega (arith, first-le l)
first-le (false ∷ l) = omega arith

cond-cnt : (c : Bool) (l : List Bool) (i k : ℕ) → cnt l ≤ k → cnt (cond c (set l i true) l) ≤ suc k
cond-cnt true l i k h = omega (arith, cnt-set l i)
cond-cnt false l i k h = omega arith

cnt-marks : (P : Pairs) (ts : List ℕ) (a k : ℕ) → cnt (marks P ts a k) ≤ k
unfolding marks
cnt-marks P ts a zero = omega (arith, cnt-none 512)
cnt-marks P ts a (suc k) = cond-cnt (clash P.low P.high a (get_or P.keys k 0)) (marks P ts a k) (get_or ts k 0) k (cnt-marks P ts a k)

cond-le : (c : Bool) {a b m : ℕ} → a ≤ m → b ≤ m → cond c a b ≤ m
cond-le true p q = p
cond-le false p q = q

pub track-le : (P : Pairs) (ts : List ℕ) (k : ℕ) → track_at P ts k ≤ k
unfolding track_at
track-le P ts k =
    let a = get_or P.keys k 0 in
    cond-le (ltb (a % 2048) 512) (omega arith) (omega (arith, first-le (marks P ts a k), cnt-marks P ts a k))

pub length-tracks : (P : Pairs) (k : ℕ) → length (tracks_to P k) ≡ k
unfolding tracks_to
length-tracks P zero = refl
length-tracks P (suc k) = length-append (tracks_to P k) (track_at P (tracks_to P k) k ∷ []) ∙ omega (arith, length-tracks P k)

snoc-le : (l : List ℕ) (x k q : ℕ) → length l ≡ k → ((r : ℕ) → r < k → get_or l r 0 ≤ r) → x ≤ k → q ≤ k → get_or (l ++ (x ∷ [])) q 0 ≤ q
snoc-le l x k q e old new h =
    ⊎_elim
    (λ (f : q ≡ k). rw f (rw (get_or_at l x [] 0 k e) new))
    (λ f. rw (get_or-append l (x ∷ []) 0 q (omega arith)) (old q f))
    (eq-or-lt_of_le h)

pub tracks-le : (P : Pairs) (k q : ℕ) → q < k → get_or (tracks_to P k) q 0 ≤ q
unfolding tracks_to
tracks-le P zero q h = absurd (omega arith)
tracks-le P (suc k) q h = snoc-le (tracks_to P k) _ k q (length-tracks P k) (tracks-le P k) (track-le P (tracks_to P k) k) (le_of_suc-le-suc h)

module _ (P : Pairs) (k : ℕ) (track : List ℕ) (inv : take k track ≡ tracks_to P k) where
  pub tracked : k ≤ length track → k ≤ 512 → Tracked k track
  tracked h s =
      record { held = h; marked = λ q l. omega (arith, rw (← inv, get_or-take k track q 0 l) at (tracks-le P k q l)) }

  pub tracks-more : k < length track → (t : ℕ) → t ≡ track_at P (take k track) k → take (k + 1) (set track k t) ≡ tracks_to P (k + 1)
  unfolding tracks_to
  tracks-more h t e = rw (add-one, take-suc-set track k t h, e, inv)

pub tracks-none : (P : Pairs) → [] ≡ tracks_to P 0
unfolding tracks_to
tracks-none P = refl

pub track-is-le : (P : Pairs) (ts : List ℕ) (k t : ℕ) → t ≡ track_at P ts k → t ≤ k
track-is-le P ts k t e = rw e (track-le P ts k)

-- ---- where a corridor starts

-- on the way to place k: the corridor that is gone through starts at `from`, and no other place has its coordinate
pub record Start (keys : List ℕ) (from k : ℕ) : Type 0 where
  pub reached : from ≤ k
  pub same : (q : ℕ) → from ≤ q → q < k → corridor_of (get_or keys q 0) ≡ corridor_of (get_or keys from 0)
  pub apart : (q p : ℕ) → q < from → from ≤ p → p < length keys → corridor_of (get_or keys q 0) ≡ corridor_of (get_or keys p 0) → ⊥

pub start_none : (keys : List ℕ) → Start keys 0 0
start_none keys = record { reached = omega arith; same = λ q h g. absurd (omega arith); apart = λ q p h. absurd (omega arith) }

module _ (keys : List ℕ) (R : Rising keys) (from k : ℕ) (inside : k < length keys) (S : Start keys from k) where
  split : (b : Bool) → b ≡ eqb (corridor_of (get_or keys from 0)) (corridor_of (get_or keys k 0)) → Start keys (cond b from k) (suc k)
  split true e =
      let here = eqb-true _ _ (sym e) in
      record { reached = omega (arith, S.reached); same = λ q h g. ⊎_elim (λ (f : q ≡ k). rw f (sym here)) (λ f. S.same q h f) (eq-or-lt_of_le (le_of_suc-le-suc g)); apart = S.apart }
  split false e =
      let new : corridor_of (get_or keys from 0) ≡ corridor_of (get_or keys k 0) → ⊥ = eqb-false _ _ (sym e) in
      let up = R.rise from k S.reached inside in
      let last : (q : ℕ) → k ≤ q → q < suc k → corridor_of (get_or keys q 0) ≡ corridor_of (get_or keys k 0) = λ q h g. ap (λ (i : ℕ). corridor_of (get_or keys i 0)) (omega arith) in
      record { reached = omega arith; same = last; apart = λ q p h g l f. go q p h g l f new up (ltb q from) refl }
    where
      go : (q p : ℕ) → q < k → k ≤ p → p < length keys → corridor_of (get_or keys q 0) ≡ corridor_of (get_or keys p 0)
          → (corridor_of (get_or keys from 0) ≡ corridor_of (get_or keys k 0) → ⊥) → get_or keys from 0 ≤ get_or keys k 0 → (b : Bool) → ltb q from ≡ b → ⊥
      go q p h g l f new up true o = S.apart q p (ltb-true q from o) (omega (arith, S.reached)) l f
      go q p h g l f new up false o =
          let on = R.rise k p g l in
          let one = S.same q (ltb-false q from o) h in
          new (omega arith)

  pub start-more : Start keys (corridor_start keys from k) (k + 1)
  start-more = rw add-one (split _ refl)

  pub start-from : (r : ℕ) → r ≡ corridor_start keys from k → From keys r k
  start-from r e = rw e (go start-more)
    where
      bound : (b : Bool) → cond b from k ≤ k
      bound true = S.reached
      bound false = omega arith

      go : Start keys (corridor_start keys from k) (k + 1) → From keys (corridor_start keys from k) k
      go T = let b = bound (eqb (corridor_of (get_or keys from 0)) (corridor_of (get_or keys k 0))) in record { reached = b; apart = λ q h. T.apart q k h b inside }
