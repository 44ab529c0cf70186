-- Digits as they are written, and that they are read back as the same number.
use mathlib.Core.Path.{◌≡◌, refl, ap, ◌∙◌}
use mathlib.Core.List.{List, [], ◌∷◌, ◌++◌}
use mathlib.Core.Bool.{Bool, true, false, ◌&&◌}
use Prim.Native.Nat.{ℕ, zero, suc, ◌+◌, ◌-◌, ◌*◌, ◌/◌, ◌%◌, ◌≤◌, ◌<◌}
use native.Mathlib.Omega.{arith}
use native.Mathlib.Numerals.{add-one}
use lib.ListN.{length, get_or, length-append}
use borrow.Author.Tests.{ne_eqb, le-leb, lt-ltb, le-ltb}
use Rattle.decimals.specs.Decimal.{BASE, MINUS, is_digit, digits_only, is_empty, natural, reads, cap, amount, plain, value}
use Rattle.decimals.specs.Write.{digits_in, digits}
use Rattle.decimals.proofs.Bools.{below}

-- one digit, or more
below-ten : {P : Type 0} (v : ℕ) → (v < 10 → P) → (10 ≤ v → P) → P
below-ten v f g = below v 10 f g

-- more room than is needed changes nothing
room : (k j v : ℕ) → v < k → v < j → digits_in k v ≡ digits_in j v
unfolding digits_in
room zero j v h h' = absurd (omega arith)
room (suc k) zero v h h' = absurd (omega arith)
room (suc k) (suc j) v h h' =
    below-ten v (λ e. rw (lt-ltb v 10 e)) (λ e. rw (le-ltb v 10 e, room k j (v / 10) (omega arith) (omega arith)))

pub digits-one : (v : ℕ) → v < 10 → digits v ≡ (48 + v) ∷ []
unfolding digits digits_in
digits-one v h = rw (add-one, lt-ltb v 10 h)

pub digits_more : (v : ℕ) → 10 ≤ v → digits v ≡ digits (v / 10) ++ ((48 + v % 10) ∷ [])
unfolding digits digits_in
digits_more v h = rw (add-one v, le-ltb v 10 h, room v (v / 10 + 1) (v / 10) (omega arith) (omega arith))

pub digits-some : (v : ℕ) → 1 ≤ length (digits v)
digits-some v = below-ten v (λ e. rw (digits-one v e) (omega arith)) (λ e. rw (digits_more v e, length-append) (omega arith))

-- read back
reads-append : (v : ℕ) (xs ys : List ℕ) → reads v (xs ++ ys) ≡ reads (reads v xs) ys
unfolding reads
reads-append v [] ys = refl
reads-append v (x ∷ xs) ys = reads-append (v * 10 + (x - 48)) xs ys

and-on : (a b c : Bool) → a && b ≡ true → (b ≡ true → c ≡ true) → a && c ≡ true
and-on true b c e f = f e
and-on false b c e f = e

only-append : (xs ys : List ℕ) → digits_only xs ≡ true → digits_only ys ≡ true → digits_only (xs ++ ys) ≡ true
unfolding digits_only
only-append [] ys h h' = h'
only-append (x ∷ xs) ys h h' = and-on (is_digit x) (digits_only xs) (digits_only (xs ++ ys)) h (λ e. only-append xs ys e h')

digit-is : (d : ℕ) → d < 10 → is_digit (48 + d) ≡ true
unfolding is_digit
digit-is d h = rw (le-leb 48 (48 + d) (omega arith), le-leb (48 + d) 57 (omega arith))

-- by a bound k on v
reads_in : (k v : ℕ) → v < k → reads 0 (digits v) ≡ v
unfolding reads
reads_in zero v h = absurd (omega arith)
reads_in (suc k) v h =
    below-ten v (λ e. rw (digits-one v e) (omega arith))
    (λ e. rw (digits_more v e, reads-append 0 (digits (v / 10)) ((48 + v % 10) ∷ []), reads_in k (v / 10) (omega arith)) (omega arith))

only-in : (k v : ℕ) → v < k → digits_only (digits v) ≡ true
unfolding digits_only
only-in zero v h = absurd (omega arith)
only-in (suc k) v h =
    below-ten v (λ e. rw (digits-one v e, digit-is v e))
    (λ e. rw (digits_more v e) (only-append (digits (v / 10)) ((48 + v % 10) ∷ []) (only-in k (v / 10) (omega arith)) (rw (digit-is (v % 10) (omega arith)))))

head-append : (xs ys : List ℕ) → 1 ≤ length xs → get_or (xs ++ ys) 0 0 ≡ get_or xs 0 0
head-append [] ys h = absurd (omega arith)
head-append (x ∷ xs) ys h = refl

head_in : (k v : ℕ) → v < k → 1 ≤ v → 49 ≤ get_or (digits v) 0 0
head_in zero v h h₁ = absurd (omega arith)
head_in (suc k) v h h₁ =
    below-ten v (λ e. rw (digits-one v e) (omega arith))
    (λ e. rw (digits_more v e, head-append (digits (v / 10)) ((48 + v % 10) ∷ []) (digits-some (v / 10))) (head_in k (v / 10) (omega arith) (omega arith)))

pub reads-digits : (v : ℕ) → reads 0 (digits v) ≡ v
reads-digits v = reads_in (suc v) v (omega arith)

pub only-digits : (v : ℕ) → digits_only (digits v) ≡ true
only-digits v = only-in (suc v) v (omega arith)

natural-led : (xs : List ℕ) → digits_only xs ≡ true → 49 ≤ get_or xs 0 0 → natural xs ≡ true
unfolding natural
natural-led [] e h = absurd (omega arith)
natural-led (x ∷ xs) e h = rw (e, ne_eqb x 48 (λ z. omega arith))

pub natural-digits : (v : ℕ) → natural (digits v) ≡ true
unfolding natural is_empty digits_only is_digit
natural-digits zero = rw (digits-one 0 (omega arith))
natural-digits (suc v) = natural-led (digits (suc v)) (only-digits (suc v)) (head_in (suc (suc v)) (suc v) (omega arith) (omega arith))

pub amount-digits : (v : ℕ) → amount (digits v) ≡ cap v
unfolding amount
amount-digits v = rw (reads-digits v)

-- digits do not start with a minus
head-digit : (xs : List ℕ) → natural xs ≡ true → (get_or xs 0 0 ≡ MINUS → ⊥)
unfolding natural digits_only is_digit
head-digit [] e m = omega arith
head-digit (x ∷ xs) e m = let z : false ≡ true = rw m at e in let y : ◌≡◌ {A = ℕ} 0 1 = cc in omega arith

no-natural : natural [] ≡ true → ⊥
unfolding natural
no-natural e = let z : ◌≡◌ {A = ℕ} 0 1 = cc in omega arith

plain-natural : (xs : List ℕ) → natural xs ≡ true → plain xs ≡ true
unfolding plain
plain-natural [] e = absurd (no-natural e)
plain-natural (x ∷ xs) e = rw (ne_eqb x MINUS (head-digit (x ∷ xs) e)) e

value-natural : (xs : List ℕ) → natural xs ≡ true → value xs ≡ BASE + amount xs
unfolding value
value-natural [] e = absurd (no-natural e)
value-natural (x ∷ xs) e = rw (ne_eqb x MINUS (head-digit (x ∷ xs) e))

pub plain-digits : (v : ℕ) → plain (digits v) ≡ true
plain-digits v = plain-natural (digits v) (natural-digits v)

pub value-digits : (v : ℕ) → value (digits v) ≡ BASE + cap v
value-digits v = value-natural (digits v) (natural-digits v) ∙ ap (λ (n : ℕ). BASE + n) (amount-digits v)
