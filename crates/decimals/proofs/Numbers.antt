-- Plain decimals as they are read: the loop over digits by what is left (a sum cut off early is the sum cut off late), and the ways to answer.
use mathlib.Core.Path.{◌≡◌, refl, sym, ap, ◌∙◌}
use mathlib.Core.List.{List, [], ◌∷◌}
use mathlib.Core.Bool.{Bool, true, false, cond}
use Rattle.std.specs.Prelude.{Option, Some, None}
use Rattle.std.specs.Char.{is_ascii_digit}
use Prim.Native.Nat.{ℕ, suc, ◌+◌, ◌-◌, ◌*◌, ◌≤◌, ◌<◌, min}
use native.Mathlib.Omega.{arith}
use lib.ListN.{length, get_or, take, drop, drop_of_length-le}
use lib.Seq.{take_all}
use borrow.Author.Tests.{eq-eqb, ne_eqb, le-leb}
use Rattle.decimals.specs.Decimal.{BASE, is_digit, digits_only, is_empty, natural, reads, cap, amount, summed, amount_of, MINUS, plain, value, number_of}
use Rattle.decimals.proofs.Split.{drop_at}
use Rattle.decimals.proofs.Bools.{and-false, and-true}

cap-more : (v d : ℕ) → cap (cap v * 10 + d) ≡ cap (v * 10 + d)
unfolding cap
cap-more v d = omega arith

cap-cap : (v : ℕ) → cap (cap v) ≡ cap v
unfolding cap
cap-cap v = omega arith

pub cap-reads : (v : ℕ) (bs : List ℕ) → cap (reads (cap v) bs) ≡ cap (reads v bs)
unfolding reads
cap-reads v [] = cap-cap v
cap-reads v (b ∷ bs) =
    sym (cap-reads (cap v * 10 + (b - 48)) bs) ∙ ap (λ (n : ℕ). cap (reads n bs)) (cap-more v (b - 48)) ∙ cap-reads (v * 10 + (b - 48)) bs

digit : (b : ℕ) → 48 ≤ b → b ≤ 57 → is_digit b ≡ true
unfolding is_digit
digit b h h' = rw (le-leb 48 b h, le-leb b 57 h')

-- the turns of the sum
module _ (bs : List ℕ) (v i : ℕ) (t : Option ℕ) (so_far : summed v (drop i bs) ≡ t) where
  pub sum-bad : i < length bs → is_ascii_digit (get_or bs i 0) ≡ false → None ≡ t
  unfolding summed digits_only is_digit
  sum-bad h e = rw (drop_at bs i h, e) at so_far

  pub sum-on : (w : ℕ) → i < length bs → 48 ≤ get_or bs i 0 → get_or bs i 0 ≤ 57 → w ≡ cap (v * 10 + (get_or bs i 0 - 48)) → summed w (drop (i + 1) bs) ≡ t
  unfolding summed digits_only reads
  sum-on w h h₁ h₂ e =
      rw (e, cap-reads (v * 10 + (get_or bs i 0 - 48)) (drop (i + 1) bs))
      (rw (drop_at bs i h, digit (get_or bs i 0) h₁ h₂) at so_far)

  pub sum-end : length bs ≤ i → v ≤ BASE → Some v ≡ t
  unfolding summed digits_only reads cap
  sum-end h h' =
      let e : min v BASE ≡ v = omega arith in
      rw (drop_of_length-le bs h, e) at so_far

pub cap-le : (v : ℕ) → cap v ≤ BASE
unfolding cap
cap-le v = omega arith

pub amount-none : (bs : List ℕ) → length bs ≡ 0 → None ≡ amount_of bs
unfolding amount_of natural
amount-none [] h = refl
amount-none (b ∷ bs) h = absurd (omega arith)

pub amount-zero : (bs : List ℕ) → get_or bs 0 0 ≡ 48 → length bs ≡ 1 → Some 0 ≡ amount_of bs
unfolding amount_of natural digits_only amount reads is_empty is_digit cap
amount-zero [] e h = absurd (omega arith)
amount-zero (b ∷ []) e h = rw e
amount-zero (b ∷ c ∷ bs) e h = absurd (omega arith)

pub amount-lead : (bs : List ℕ) → get_or bs 0 0 ≡ 48 → (length bs ≡ 1 → ⊥) → None ≡ amount_of bs
unfolding amount_of natural is_empty
amount-lead [] e h = refl
amount-lead (b ∷ []) e h = absurd (h refl)
amount-lead (b ∷ c ∷ bs) e h = rw (eq-eqb b 48 e, and-false (digits_only (b ∷ c ∷ bs)))

pub amount-sum : (bs : List ℕ) (a : Option ℕ) → (length bs ≡ 0 → ⊥) → (get_or bs 0 0 ≡ 48 → ⊥) → a ≡ summed 0 bs → a ≡ amount_of bs
unfolding amount_of natural amount summed
amount-sum [] a h e s = absurd (h refl)
amount-sum (b ∷ bs) a h e s = rw (s, ne_eqb b 48 e, and-true (digits_only (b ∷ bs)))

-- what an answer tells
is-told : (n : Bool) (m v : ℕ) → Some v ≡ cond n (Some m) None → (n ≡ true) × (m ≡ v)
is-told true m v e = (refl, cc)
is-told false m v e = let z : ◌≡◌ {A = ℕ} 0 1 = cc in absurd (omega arith)

not-told : (n : Bool) (m : ℕ) → None ≡ cond n (Some m) None → n ≡ false
not-told true m e = let z : ◌≡◌ {A = ℕ} 0 1 = cc in absurd (omega arith)
not-told false m e = refl

pub amount-le : (bs : List ℕ) (a : Option ℕ) (v : ℕ) → a ≡ amount_of bs → a ≡ Some v → v ≤ BASE
unfolding amount_of amount
amount-le bs a v e₁ e₂ = let t = is-told (natural bs) (amount bs) v (sym e₂ ∙ e₁) in rw (← t.1) (cap-le (reads 0 bs))

pub number-none : (f : List ℕ) → length f ≡ 0 → None ≡ number_of f
unfolding number_of plain
number-none [] h = refl
number-none (b ∷ bs) h = absurd (omega arith)

-- behind a minus: k bytes, which are all
pub minus-bad : (f : List ℕ) (k : ℕ) (a : Option ℕ) → (length f ≡ 0 → ⊥) → length f ≤ suc k → get_or f 0 0 ≡ MINUS → a ≡ amount_of (take k (drop 1 f))
    → a ≡ None → None ≡ number_of f
unfolding number_of plain amount_of
minus-bad [] k a h hk m e g = absurd (h refl)
minus-bad (b ∷ bs) k a h hk m e g =
    let t : take k bs ≡ bs = take_all k bs (omega arith) in
    rw (eq-eqb b 45 m, not-told (natural bs) (amount bs) (sym g ∙ e ∙ ap amount_of t))

pub minus-zero : (f : List ℕ) (k : ℕ) (a : Option ℕ) (v : ℕ) → (length f ≡ 0 → ⊥) → length f ≤ suc k → get_or f 0 0 ≡ MINUS → a ≡ amount_of (take k (drop 1 f))
    → a ≡ Some v → v ≡ 0 → None ≡ number_of f
unfolding number_of plain amount_of
minus-zero [] k a v h hk m e g z = absurd (h refl)
minus-zero (b ∷ bs) k a v h hk m e g z =
    let t : take k bs ≡ bs = take_all k bs (omega arith) in
    let told = is-told (natural bs) (amount bs) v (sym g ∙ e ∙ ap amount_of t) in
    rw (eq-eqb b 45 m, told.0, told.1, z)

pub minus-word : (f : List ℕ) (k : ℕ) (a : Option ℕ) (v : ℕ) → (length f ≡ 0 → ⊥) → length f ≤ suc k → get_or f 0 0 ≡ MINUS → a ≡ amount_of (take k (drop 1 f))
    → a ≡ Some v → (v ≡ 0 → ⊥) → Some (BASE - v) ≡ number_of f
unfolding number_of plain value amount_of
minus-word [] k a v h hk m e g z = absurd (h refl)
minus-word (b ∷ bs) k a v h hk m e g z =
    let t : take k bs ≡ bs = take_all k bs (omega arith) in
    let told = is-told (natural bs) (amount bs) v (sym g ∙ e ∙ ap amount_of t) in
    rw (eq-eqb b 45 m, told.0, told.1, ne_eqb v 0 z)

pub plus-bad : (f : List ℕ) (a : Option ℕ) → (length f ≡ 0 → ⊥) → (get_or f 0 0 ≡ MINUS → ⊥) → a ≡ amount_of f → a ≡ None → None ≡ number_of f
unfolding number_of plain amount_of
plus-bad [] a h m e g = absurd (h refl)
plus-bad (b ∷ bs) a h m e g = rw (ne_eqb b 45 m, not-told (natural (b ∷ bs)) (amount (b ∷ bs)) (sym g ∙ e))

pub plus-empty : (f : List ℕ) (a : Option ℕ) (v : ℕ) → length f < 1 → a ≡ amount_of f → a ≡ Some v → Some (BASE + v) ≡ number_of f
unfolding amount_of natural
plus-empty [] a v h e g = cc
plus-empty (b ∷ bs) a v h e g = absurd (omega arith)

pub plus-word : (f : List ℕ) (a : Option ℕ) (v : ℕ) → (length f ≡ 0 → ⊥) → (get_or f 0 0 ≡ MINUS → ⊥) → a ≡ amount_of f → a ≡ Some v → Some (BASE + v) ≡ number_of f
unfolding number_of plain value amount_of
plus-word [] a v h m e g = absurd (h refl)
plus-word (b ∷ bs) a v h m e g =
    let told = is-told (natural (b ∷ bs)) (amount (b ∷ bs)) v (sym g ∙ e) in
    rw (ne_eqb b 45 m, told.0, told.1)

word-told : (p : Bool) (m v : ℕ) → Some v ≡ cond p (Some m) None → (p ≡ true) × (m ≡ v)
word-told true m v e = (refl, cc)
word-told false m v e = let z : ◌≡◌ {A = ℕ} 0 1 = cc in absurd (omega arith)

word-not : (p : Bool) (m : ℕ) → None ≡ cond p (Some m) None → p ≡ false
word-not true m e = let z : ◌≡◌ {A = ℕ} 0 1 = cc in absurd (omega arith)
word-not false m e = refl

pub number-told : (f : List ℕ) (a : Option ℕ) (v : ℕ) → a ≡ number_of f → a ≡ Some v → (plain f ≡ true) × (value f ≡ v)
unfolding number_of
number-told f a v e g = word-told (plain f) (value f) v (sym g ∙ e)

pub number-not : (f : List ℕ) (a : Option ℕ) → a ≡ number_of f → a ≡ None → plain f ≡ false
unfolding number_of
number-not f a e g = word-not (plain f) (value f) (sym g ∙ e)

-- the turns of a sum, and what an amount and a number are, case by case
pub ruleset sums = (sum-bad, sum-on, sum-end)

pub ruleset amounts = (amount-none, amount-zero, amount-lead, amount-sum)

pub ruleset numbers = (number-none, minus-bad, minus-zero, minus-word, plus-bad, plus-empty, plus-word, amount-le)
