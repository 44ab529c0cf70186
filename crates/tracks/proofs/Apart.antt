-- Level 2: overlapping pairs of a corridor share no track unless both are locked, and no lower track is free. An earlier overlapping pair sets the mark
-- of its track, and the first clear mark is not set; marks below it are; a locked pair is behind no other.
use Prim.Native.Nat.{ℕ, zero, suc, ◌-◌, ◌≤◌, ◌<◌}
use mathlib.Core.Path.{◌≡◌, refl, sym, ◌∙◌}
use mathlib.Core.Bool.{Bool, true, false, cond}
use mathlib.Core.List.{List, [], ◌∷◌}
use mathlib.Core.Logic.{⊎_elim}
use native.Mathlib.Decide.{ℕ_discrete}
use native.Mathlib.Omega.{arith}
use native.Mathlib.Nat.{eq-or-lt_of_le, le_of_suc-le-suc}
use lib.ListN.{length, get_or, set, replicate, get_or-append}
use lib.Seq.{get_or-set_same, get_or-set_other, get_or_at}
use borrow.Author.Tests.{eqb-true, lt-ltb, ltb-true}
use Rattle.fixed.proofs.Bools.{clash as contrary, and_left}
use Rattle.tracks.specs.Corridors.{Pairs, corridor_of, place_of, locked_key, gathered}
use Rattle.tracks.specs.Tracks.{clash, marks, first_clear, track_at, tracks_to, Rising}
use Rattle.tracks.specs.Promises.{Apart, Taken}
use Rattle.tracks.proofs.Tracks.{length-marks, length-tracks, tracks-le}
use Rattle.tracks.proofs.Keys.{gather-few}
use Rattle.tracks.proofs.Order.{to-rising}

-- ---- marks

clear-is : (l : List Bool) → get_or l (first_clear l) false ≡ false
unfolding first_clear
clear-is [] = refl
clear-is (true ∷ l) = clear-is l
clear-is (false ∷ l) = refl

set_keeps : (l : List Bool) (t u : ℕ) → get_or l t false ≡ true → get_or (set l u true) t false ≡ true
set_keeps [] t u h = h
set_keeps (b ∷ l) zero zero h = refl
set_keeps (b ∷ l) zero (suc u) h = h
set_keeps (b ∷ l) (suc t) zero h = h
set_keeps (b ∷ l) (suc t) (suc u) h = set_keeps l t u h

cond-keeps : (c : Bool) (l : List Bool) (t u : ℕ) → get_or l t false ≡ true → get_or (cond c (set l u true) l) t false ≡ true
cond-keeps true l t u h = set_keeps l t u h
cond-keeps false l t u h = h

module _ (P : Pairs) (ts : List ℕ) (a p : ℕ) (over : clash P.low P.high a (get_or P.keys p 0) ≡ true) (small : get_or ts p 0 < 512) where
  marked_by : (k : ℕ) → p < k → get_or (marks P ts a k) (get_or ts p 0) false ≡ true
  unfolding marks
  marked_by zero h = absurd (omega arith)
  marked_by (suc k) h =
      ⊎_elim
      (λ (e : p ≡ k). rw (← e, over) (get_or-set_same (marks P ts a p) (get_or ts p 0) true false (omega (arith, length-marks P ts a p))))
      (λ l. cond-keeps (clash P.low P.high a (get_or P.keys k 0)) (marks P ts a k) (get_or ts p 0) (get_or ts k 0) (marked_by k l))
      (eq-or-lt_of_le (le_of_suc-le-suc h))

-- below the first clear mark each is set, and a pair has set it

clear-below : (l : List Bool) (t : ℕ) → t < first_clear l → get_or l t false ≡ true
unfolding first_clear
clear-below [] t h = absurd (omega arith)
clear-below (true ∷ l) zero h = refl
clear-below (true ∷ l) (suc t) h = clear-below l t (le_of_suc-le-suc h)
clear-below (false ∷ l) t h = absurd (omega arith)

none-set : (n t : ℕ) → get_or (replicate n false) t false ≡ false
none-set zero t = refl
none-set (suc n) zero = refl
none-set (suc n) (suc t) = none-set n t

record Set (P : Pairs) (ts : List ℕ) (a k t : ℕ) : Type 0 where
  by : ℕ
  earlier : by < k
  over : clash P.low P.high a (get_or P.keys by 0) ≡ true
  is : get_or ts by 0 ≡ t

module _ (P : Pairs) (ts : List ℕ) (a t : ℕ) where
  more : (k : ℕ) → Set P ts a k t → Set P ts a (suc k) t
  more k S = record { by = S.by; earlier = omega (arith, S.earlier); over = S.over; is = S.is }

  set-by : (k : ℕ) → get_or (marks P ts a k) t false ≡ true → Set P ts a k t
  unfolding marks
  set-by zero h = absurd (contrary h (none-set 512 t))
  set-by (suc k) h = go (clash P.low P.high a (get_or P.keys k 0)) refl (ℕ_discrete (get_or ts k 0) t) (set-by k) h
    where
      go : (c : Bool) → clash P.low P.high a (get_or P.keys k 0) ≡ c → Dec (get_or ts k 0 ≡ t) → (get_or (marks P ts a k) t false ≡ true → Set P ts a k t)
          → get_or (cond c (set (marks P ts a k) (get_or ts k 0) true) (marks P ts a k)) t false ≡ true → Set P ts a (suc k) t
      go true e (yes f) old g = record { by = k; earlier = omega arith; over = e; is = f }
      go true e (no f) old g = more k (old (sym (get_or-set_other (marks P ts a k) (get_or ts k 0) t true false (λ q. f (sym q))) ∙ g))
      go false e d old g = more k (old g)

-- ---- tracks

module _ (P : Pairs) where
  -- later tracks change no earlier one
  kept : (k n p : ℕ) → p < k → k ≤ n → get_or (tracks_to P n) p 0 ≡ get_or (tracks_to P k) p 0
  unfolding tracks_to
  kept k zero p h g = absurd (omega arith)
  kept k (suc n) p h g =
      ⊎_elim
      (λ (e : k ≡ suc n). rw e)
      (λ l. get_or-append (tracks_to P n) _ 0 p (omega (arith, length-tracks P n)) ∙ kept k n p h (le_of_suc-le-suc l))
      (eq-or-lt_of_le g)

  own : (k n : ℕ) → k < n → get_or (tracks_to P n) k 0 ≡ track_at P (tracks_to P k) k
  unfolding tracks_to
  own k n h = kept (suc k) n k (omega arith) h ∙ get_or_at (tracks_to P k) (track_at P (tracks_to P k) k) [] 0 k (length-tracks P k)

  at-locked : (ts : List ℕ) (k : ℕ) → locked_key (get_or P.keys k 0) ≡ true → track_at P ts k ≡ 0
  unfolding track_at
  at-locked ts k e = rw e

  at-free : (ts : List ℕ) (k : ℕ) → locked_key (get_or P.keys k 0) ≡ false → track_at P ts k ≡ first_clear (marks P ts (get_or P.keys k 0) k)
  unfolding track_at
  at-free ts k e = rw e

  module _ (R : Rising P.keys) (few : length P.keys ≤ 512) (p q : ℕ) (h : p < q) (g : q < length P.keys)
      (over : clash P.low P.high (get_or P.keys q 0) (get_or P.keys p 0) ≡ true)
      (shared : get_or (tracks_to P (length P.keys)) p 0 ≡ get_or (tracks_to P (length P.keys)) q 0) where
    later : locked_key (get_or P.keys q 0) ≡ true
    later = go (locked_key (get_or P.keys q 0)) refl
      where
        go : (b : Bool) → locked_key (get_or P.keys q 0) ≡ b → b ≡ true
        go true e = refl
        go false e =
            let ts = tracks_to P q in
            let first = sym (kept q (length P.keys) p h (omega arith)) ∙ shared ∙ own q (length P.keys) g ∙ at-free ts q e in
            let clear = clear-is (marks P ts (get_or P.keys q 0) q) in
            let small = tracks-le P q p h in
            absurd (contrary (marked_by P ts (get_or P.keys q 0) p over (omega arith) q h) (rw first clear))

    earlier : locked_key (get_or P.keys p 0) ≡ true
    unfolding clash
    earlier =
        let one : corridor_of (get_or P.keys q 0) ≡ corridor_of (get_or P.keys p 0) = eqb-true _ _ (and_left _ _ over) in
        let up = R.rise p q (omega arith) g in
        let below : place_of (get_or P.keys q 0) < 512 = ltb-true _ _ later in
        lt-ltb (place_of (get_or P.keys p 0)) 512 (omega arith)

  lower : (k t : ℕ) → k < length P.keys → t < get_or (tracks_to P (length P.keys)) k 0 → Taken P (tracks_to P (length P.keys)) k t
  lower k t h g = go (locked_key (get_or P.keys k 0)) refl
    where
      n : ℕ
      n = length P.keys

      kept-is : Set P (tracks_to P k) (get_or P.keys k 0) k t → Taken P (tracks_to P n) k t
      kept-is S = record { by = S.by; earlier = S.earlier; over = S.over; is = kept k n S.by S.earlier (omega arith) ∙ S.is }

      go : (b : Bool) → locked_key (get_or P.keys k 0) ≡ b → Taken P (tracks_to P n) k t
      go true e = absurd (omega (arith, own k n h, at-locked (tracks_to P k) k e))
      go false e =
          let at = own k n h ∙ at-free (tracks_to P k) k e in
          kept-is (set-by P (tracks_to P k) (get_or P.keys k 0) t k (clear-below (marks P (tracks_to P k) (get_or P.keys k 0) k) t (omega arith)))

pub tracks-apart : (P : Pairs) → Rising P.keys → length P.keys ≤ 512 → Apart P
tracks-apart P R few =
    record {
      apart = λ p q h g over shared. (earlier P R few p q h g over shared, later P R few p q h g over shared);
      locked = λ k h e. own P k (length P.keys) h ∙ at-locked P _ k e;
      lowest = lower P;
      marked = λ k h. omega (arith, tracks-le P (length P.keys) k h);
    }

-- the pairs that are gathered on an axis
pub gathered-apart : (second : Bool) (along across K J : List ℕ) → length across ≤ 512 → Apart (gathered second along across K J)
unfolding gathered
gathered-apart second along across K J h =
    tracks-apart _ (to-rising second along across K J (length across - 1)) (omega (arith, gather-few second along across K J (length across - 1)))
