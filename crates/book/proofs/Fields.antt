-- The number of a record's fields, and of a call that it decides.
--     record_is, record-long, record-ranged    a record that a desk may hold
--     answer-f, answer-n, answer-0             an answer by its parts
--     fields-say, lists-say                    a function that tests the fields first
--     take_0, leave-0, takes                   an addition or a retirement that gets 0
--     take-rises                               an addition where ids go further
use mathlib.Core.Path.{◌≡◌, refl, sym, ◌∙◌}
use mathlib.Core.List.{List}
use mathlib.Core.Bool.{Bool, true, false, cond, ◌&&◌, true≢false}
use Prim.Native.Nat.{ℕ, ◌≤◌}
use native.Mathlib.Omega.{arith}
use lib.ListN.{length}
use lib.Dec.{eqb, leb}
use borrow.Author.Tests.{eq-eqb, ne_eqb, eqb-true, le-leb, leb-true}
use Rattle.fixed.proofs.Bools.{and_left, and_right}
use Rattle.rows.specs.Rows.{key}
use Rattle.book.specs.Book.{Record, Lists, width, field, ok_id_in, ok_fields_in, ok_fields, ranged, fields_number_in, fields_number, ok_record}
use Rattle.book.specs.Book.{name_number, add_number, retire_number, answer, take_number_in, take_number, leave_number}
use Rattle.book.specs.declared.Kind.{Kind}

-- ---- a record that a desk may hold
ranged-0 : (b : Bool) → eqb (ranged b) 0 ≡ b
unfolding ranged
ranged-0 true = refl
ranged-0 false = refl

module _ (k : Kind) (r : Record) where
  pub record_is : ok_record k r ≡ eqb (length r) (width k) && ok_fields k r
  unfolding ok_record fields_number_in
  record_is = ranged-0 (eqb (length r) (width k) && ok_fields k r)

  pub record-long : ok_record k r ≡ true → length r ≡ width k
  record-long e = eqb-true (length r) (width k) (and_left (eqb (length r) (width k)) (ok_fields k r) (sym record_is ∙ e))

  pub record-ranged : ok_record k r ≡ true → ok_fields k r ≡ true
  record-ranged e = and_right (eqb (length r) (width k)) (ok_fields k r) (sym record_is ∙ e)

  pub record-0 : ok_record k r ≡ true → fields_number k r ≡ 0
  unfolding ok_record
  record-0 e = eqb-true (fields_number k r) 0 e

  pub record-of-0 : fields_number k r ≡ 0 → ok_record k r ≡ true
  unfolding ok_record
  record-of-0 e = eq-eqb (fields_number k r) 0 e

-- the test and the number by the record's kind
pub fields-ok : {k e : Kind} (row : List ℕ) (b : Bool) → k ≡ e → b ≡ ok_fields e row → b ≡ ok_fields k row
fields-ok row b p e = e ∙ rw p

pub fields-are : (k : Kind) (row : List ℕ) (b : Bool) (n : ℕ) → length row ≡ width k → b ≡ ok_fields k row → n ≡ ranged b → n ≡ fields_number k row
unfolding fields_number_in
fields-are k row b n h e q = q ∙ rw (eq-eqb (length row) (width k) h, e)

pub name-is : {k e : Kind} (name n : ℕ) → k ≡ e → n ≡ name_number e name → n ≡ name_number k name
name-is name n p e = e ∙ rw p

-- ---- an answer by its parts
pub answer-f : (f n : ℕ) → (f ≡ 0 → ⊥) → answer true f n ≡ f
unfolding answer
answer-f f n h = rw (ne_eqb f 0 h)

pub answer-n : (f n : ℕ) → f ≡ 0 → answer true f n ≡ n
unfolding answer
answer-n f n e = rw (eq-eqb f 0 e)

pub answer-0 : (v : Bool) (f n : ℕ) → answer v f n ≡ 0 → (v ≡ true) × (f ≡ 0) × (n ≡ 0)
unfolding answer
answer-0 true f n e = go (eqb f 0) refl e
  where
    go : (b : Bool) → eqb f 0 ≡ b → cond b n f ≡ 0 → (true ≡ true) × (f ≡ 0) × (n ≡ 0)
    go true t q = (refl, eqb-true f 0 t, q)
    go false t q = absurd (true≢false (sym (eq-eqb f 0 q) ∙ t))
answer-0 false f n e = absurd (omega arith)

-- the fields are tested first: g is what they got, m what the lists did
pub fields-say : {f g : ℕ} (n : ℕ) → g ≡ f → (g ≡ 0 → ⊥) → g ≡ answer true f n
fields-say {f} n e h = e ∙ sym (answer-f f n (λ z. h (e ∙ z)))

pub lists-say : {f g m n : ℕ} → g ≡ f → g ≡ 0 → m ≡ n → m ≡ answer true f n
lists-say {f} {n = n} e z q = q ∙ sym (answer-n f n (sym e ∙ z))

-- ---- an addition or a retirement on a sound desk
pub take_0 : (k : Kind) (r : Record) (l : Lists) → take_number k r l ≡ 0 → add_number k l (key r) ≡ 0
unfolding take_number_in
take_0 k r l e = (answer-0 true (fields_number k r) (add_number k l (key r)) e).2

pub leave-0 : (k : Kind) (name : ℕ) (l : Lists) → leave_number k name l ≡ 0 → retire_number k l name ≡ 0
unfolding leave_number
leave-0 k name l e = (answer-0 true (name_number k name) (retire_number k l name) e).2

-- a record could be added exactly if its number is 0
pub takes : (k : Kind) (r : Record) (l : Lists) → ok_record k r && eqb (add_number k l (key r)) 0 ≡ eqb (take_number k r l) 0
unfolding ok_record take_number_in answer
takes k r l = go (eqb (fields_number k r) 0) refl
  where
    go : (b : Bool) → eqb (fields_number k r) 0 ≡ b → b && eqb (add_number k l (key r)) 0 ≡ eqb (cond b (add_number k l (key r)) (fields_number k r)) 0
    go true e = refl
    go false e = sym e

-- ---- ids that go to `top`, or further
module _ (top top' : ℕ) (h : top ≤ top') where
  id-rises : (id : ℕ) → ok_id_in top id ≡ true → ok_id_in top' id ≡ true
  unfolding ok_id_in
  id-rises id e =
      rw (and_left (leb 1 id) (leb id top) e, le-leb id top' (omega (arith, leb-true id top (and_right (leb 1 id) (leb id top) e))))

  -- an id that is tested first
  first-rises : (id : ℕ) (p q : Bool) → (ok_id_in top id && p) && q ≡ true → (ok_id_in top' id && p) && q ≡ true
  first-rises id p q e = go (ok_id_in top id) refl e
    where
      go : (b : Bool) → ok_id_in top id ≡ b → (b && p) && q ≡ true → (ok_id_in top' id && p) && q ≡ true
      go true t e = rw (id-rises id t) e
      go false t e = absurd (true≢false (sym e))

  fields-rise : (k : Kind) (r : Record) → ok_fields_in top k r ≡ true → ok_fields_in top' k r ≡ true
  fields-rise Kind.Box r e = first-rises (field 0 r) _ _ e
  fields-rise Kind.Port r e = first-rises (field 0 r) _ _ e
  fields-rise Kind.Net r e = id-rises (field 0 r) e
  fields-rise Kind.End r e = first-rises (field 0 r) _ _ e

  number-rises : (k : Kind) (r : Record) → fields_number_in top k r ≡ 0 → fields_number_in top' k r ≡ 0
  unfolding fields_number_in ranged
  number-rises k r e =
      let b = eqb (length r) (width k) in
      let t : b && ok_fields_in top k r ≡ true = sym (ranged-0 (b && ok_fields_in top k r)) ∙ eq-eqb (ranged (b && ok_fields_in top k r)) 0 e in
      rw (and_left b (ok_fields_in top k r) t, fields-rise k r (and_right b (ok_fields_in top k r) t))

  pub take-rises : (k : Kind) (r : Record) (l : Lists) → take_number_in top k r l ≡ 0 → take_number_in top' k r l ≡ 0
  unfolding take_number_in
  take-rises k r l e =
      let p = answer-0 true (fields_number_in top k r) (add_number k l (key r)) e in
      answer-n (fields_number_in top' k r) (add_number k l (key r)) (number-rises k r p.1) ∙ p.2
