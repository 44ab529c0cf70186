-- Numbers as bytes: plain, with no separator in them, and no longer than ten digits and a minus.
use mathlib.Core.Path.{◌≡◌, refl, ap, ◌∙◌}
use mathlib.Core.List.{List, [], ◌∷◌, ◌++◌, append-nil}
use mathlib.Core.Bool.{Bool, true, false, not, cond, ◌&&◌}
use Prim.Native.Nat.{ℕ, zero, suc, ◌+◌, ◌-◌, ◌*◌, ◌/◌, ◌%◌, ◌≤◌, ◌<◌, min}
use native.Mathlib.Omega.{arith}
use lib.ListN.{length, length-append}
use lib.Dec.{eqb, leb}
use borrow.Author.Tests.{eq-eqb, ne_eqb, leb-true}
use Rattle.fixed.specs.Up.{BIAS}
use Rattle.fixed.proofs.Bools.{and_left, and_right}
use Rattle.decimals.specs.Bytes.{TAB, onto, split}
use Rattle.decimals.specs.Decimal.{BASE, MINUS, is_digit, digits_only, cap, plain, value}
use Rattle.decimals.specs.Write.{digits, signed, tabbed}
use Rattle.decimals.proofs.Digits.{digits-one, digits_more, only-digits, natural-digits, amount-digits, plain-digits, value-digits}
use Rattle.decimals.proofs.Written.{signed_low, signed_high}
use Rattle.decimals.proofs.Bools.{below}

-- coordinates
by-half : {P : Type 0} (u : ℕ) → (u < BIAS → P) → (BIAS ≤ u → P) → P
by-half u f g = below u BIAS f g

pub plain-signed : (u : ℕ) → plain (signed u) ≡ true
unfolding plain cap
plain-signed u =
    by-half u
    (λ h.
    let n : (min (BIAS - u) BASE ≡ 0 → ⊥) = λ z. omega arith in
    rw (signed_low u h, natural-digits (BIAS - u), amount-digits (BIAS - u), ne_eqb (min (BIAS - u) BASE) 0 n))
    (λ h. rw (signed_high u h) (plain-digits (u - BIAS)))

-- the word of a coordinate is BASE − BIAS above its steps
pub value-signed : (u : ℕ) → u < BASE → value (signed u) ≡ u + BIAS
unfolding value cap
value-signed u hu =
    by-half u
    (λ h. rw (signed_low u h, amount-digits (BIAS - u)) (omega arith))
    (λ h. rw (signed_high u h, value-digits (u - BIAS)) (omega arith))

-- pieces with no separator in them
unfoldable pub clean : ℕ → List ℕ → Bool
clean s [] = true
clean s (x ∷ xs) = not (eqb x s) && clean s xs

unfoldable pub all_clean : ℕ → List (List ℕ) → Bool
all_clean s [] = true
all_clean s (f ∷ fs) = clean s f && all_clean s fs

split-clean : (s : ℕ) (xs : List ℕ) → clean s xs ≡ true → split s xs ≡ xs ∷ []
unfolding split onto clean
split-clean s [] e = refl
split-clean s (x ∷ xs) e = go (eqb x s) e (split-clean s xs)
  where
    go : (b : Bool) → not b && clean s xs ≡ true → (clean s xs ≡ true → split s xs ≡ xs ∷ []) → cond b ([] ∷ split s xs) (onto x (split s xs)) ≡ (x ∷ xs) ∷ []
    go true e ih = let z : ◌≡◌ {A = ℕ} 0 1 = cc in absurd (omega arith)
    go false e ih = rw (ih e)

pub split-part : (s : ℕ) (xs ys : List ℕ) → clean s xs ≡ true → split s (xs ++ (s ∷ ys)) ≡ xs ∷ split s ys
unfolding split onto clean
split-part s [] ys e = rw (eq-eqb s s refl)
split-part s (x ∷ xs) ys e = go (eqb x s) e (split-part s xs ys)
  where
    go : (b : Bool) → not b && clean s xs ≡ true → (clean s xs ≡ true → split s (xs ++ (s ∷ ys)) ≡ xs ∷ split s ys)
        → cond b ([] ∷ split s (xs ++ (s ∷ ys))) (onto x (split s (xs ++ (s ∷ ys)))) ≡ (x ∷ xs) ∷ split s ys
    go true e ih = let z : ◌≡◌ {A = ℕ} 0 1 = cc in absurd (omega arith)
    go false e ih = rw (ih e)

pub split-tabbed : (w : List ℕ) (fs : List (List ℕ)) → clean TAB w ≡ true → all_clean TAB fs ≡ true → split TAB (w ++ tabbed fs) ≡ w ∷ fs
unfolding tabbed clean all_clean
split-tabbed w [] e h = rw (append-nil w) (split-clean TAB w e)
split-tabbed w (f ∷ fs) e h =
    split-part TAB w (f ++ tabbed fs) e
    ∙ ap (λ (t : List (List ℕ)). w ∷ t) (split-tabbed f fs (and_left (clean TAB f) (all_clean TAB fs) h) (and_right (clean TAB f) (all_clean TAB fs) h))

pub clean-append : (s : ℕ) (xs ys : List ℕ) → clean s xs ≡ true → clean s ys ≡ true → clean s (xs ++ ys) ≡ true
unfolding clean
clean-append s [] ys e h = h
clean-append s (x ∷ xs) ys e h =
    rw (and_left (not (eqb x s)) (clean s xs) e) (clean-append s xs ys (and_right (not (eqb x s)) (clean s xs) e) h)

pub clean-tabbed : (s : ℕ) (fs : List (List ℕ)) → (TAB ≡ s → ⊥) → all_clean s fs ≡ true → clean s (tabbed fs) ≡ true
unfolding tabbed clean all_clean
clean-tabbed s [] n h = refl
clean-tabbed s (f ∷ fs) n h =
    rw (ne_eqb TAB s n)
    (clean-append s f (tabbed fs) (and_left (clean s f) (all_clean s fs) h) (clean-tabbed s fs n (and_right (clean s f) (all_clean s fs) h)))

not_digit : (s x : ℕ) → s < 45 → is_digit x ≡ true → not (eqb x s) ≡ true
unfolding is_digit
not_digit s x h e = rw (ne_eqb x s (λ z. omega (arith, leb-true 48 x (and_left (leb 48 x) (leb x 57) e))))

clean-only : (s : ℕ) (xs : List ℕ) → s < 45 → digits_only xs ≡ true → clean s xs ≡ true
unfolding clean digits_only
clean-only s [] h e = refl
clean-only s (x ∷ xs) h e =
    rw (not_digit s x h (and_left (is_digit x) (digits_only xs) e)) (clean-only s xs h (and_right (is_digit x) (digits_only xs) e))

pub clean-digits : (s v : ℕ) → s < 45 → clean s (digits v) ≡ true
clean-digits s v h = clean-only s (digits v) h (only-digits v)

pub clean-signed : (s u : ℕ) → s < 45 → clean s (signed u) ≡ true
unfolding clean
clean-signed s u h =
    by-half u (λ g. rw (signed_low u g, ne_eqb MINUS s (λ z. omega arith)) (clean-digits s (BIAS - u) h))
    (λ g. rw (signed_high u g) (clean-digits s (u - BIAS) h))

-- how long they are
ten : ℕ → ℕ
ten zero = 1
ten (suc k) = ten k * 10

width-le : (k v : ℕ) → v < ten (suc k) → length (digits v) ≤ suc k
unfolding ten
width-le zero v h = rw (digits-one v (omega arith)) (omega arith)
width-le (suc k) v h =
    below v 10 (λ e. rw (digits-one v e) (omega arith))
    (λ e. rw (digits_more v e, length-append (digits (v / 10)) ((48 + v % 10) ∷ [])) (omega (arith, width-le k (v / 10) (omega arith))))

pub digits-width : (v : ℕ) → v < BASE → length (digits v) ≤ 10
unfolding ten
digits-width v h = width-le 9 v (omega arith)

pub signed-width : (u : ℕ) → u < BASE → length (signed u) ≤ 11
signed-width u h =
    by-half u (λ g. rw (signed_low u g) (omega (arith, digits-width (BIAS - u) (omega arith))))
    (λ g. rw (signed_high u g) (omega (arith, digits-width (u - BIAS) (omega arith))))
