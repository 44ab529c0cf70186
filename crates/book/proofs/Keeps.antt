-- The book alone: each call that gets 0 leaves a book that keeps the limits.
--     ok-with, ok-without           the lists after an addition and a retirement
--     valid-change, valid-back      the book after a change and after undo
use mathlib.Core.Path.{◌≡◌, refl, sym, ap, ◌∙◌}
use mathlib.Core.List.{List, [], ◌∷◌, ◌++◌, map, map-append}
use mathlib.Core.Bool.{Bool, true, false, not, cond, ◌&&◌, ◌||◌, true≢false}
use Prim.Native.Nat.{ℕ, zero, suc, ◌≤◌, ◌<◌}
use native.Mathlib.Omega.{arith}
use lib.ListN.{length, take, length-append, length-take}
use lib.Dec.{ltb, leb, eqb}
use borrow.Author.Tests.{lt-ltb, le-ltb, le-leb, eq-eqb, ne_eqb, ltb-true, ltb-false, leb-true, eqb-true, eqb-false, not-true}
use Rattle.fixed.proofs.Bools.{and_left, and_right}
use Rattle.rows.specs.Rows.{key, ids, scan, place, is_in, without}
use Rattle.book.specs.Sizes.{COPIES}
use Rattle.book.specs.Book.{Record, Lists, Book, with_list, most, ok_record, own, belongs, ok_owners, ok_members, ok_lists, ok_copy, valid, change, back}
use Rattle.book.specs.Book.{room_number, new_number, known_number, add_number, id_number, retire_number, with_record, without_record}
use Rattle.book.specs.declared.Kind.{Kind}

pub both : (a b : Bool) → a ≡ true → b ≡ true → a && b ≡ true
both a b e f = rw (e, f)

shift : (p n : ℕ) → ltb (suc p) (suc n) ≡ ltb p n
shift p n = go (ltb p n) refl
  where
    go : (b : Bool) → ltb p n ≡ b → ltb (suc p) (suc n) ≡ b
    go true e = lt-ltb (suc p) (suc n) (omega (arith, ltb-true p n e))
    go false e = le-ltb (suc p) (suc n) (omega (arith, ltb-false p n e))

-- is_in by recursion
pub is_in-nil : (k : ℕ) → is_in k [] ≡ false
unfolding is_in place
is_in-nil k = le-ltb 0 0 (omega arith)

pub is_in-cons : (k x : ℕ) (xs : List ℕ) → is_in k (x ∷ xs) ≡ eqb x k || is_in k xs
unfolding is_in place
is_in-cons k x xs = go (eqb x k)
  where
    go : (b : Bool) → ltb (cond b 0 (suc (place k xs))) (suc (length xs)) ≡ b || ltb (place k xs) (length xs)
    go true = lt-ltb 0 (suc (length xs)) (omega arith)
    go false = shift (place k xs) (length xs)

or_assoc : (a b c : Bool) → a || (b || c) ≡ (a || b) || c
or_assoc true b c = refl
or_assoc false b c = refl

or-false : (a b : Bool) → a ≡ false → b ≡ false → a || b ≡ false
or-false a b e f = rw (e, f)

or_l : (a b : Bool) → a || b ≡ false → a ≡ false
or_l true b e = e
or_l false b e = refl

or_r : (a b : Bool) → a || b ≡ false → b ≡ false
or_r true b e = absurd (true≢false e)
or_r false b e = e

pub or-2 : (a b : Bool) → b ≡ true → a || b ≡ true
or-2 true b e = refl
or-2 false b e = e

pub is_in-snoc : (k y : ℕ) (xs : List ℕ) → is_in k (xs ++ (y ∷ [])) ≡ is_in k xs || eqb y k
is_in-snoc k y [] = is_in-cons k y [] ∙ go (eqb y k)
  where
    go : (b : Bool) → b || is_in k [] ≡ is_in k [] || b
    go true = rw (is_in-nil k)
    go false = rw (is_in-nil k)
is_in-snoc k y (x ∷ xs) =
    is_in-cons k x (xs ++ (y ∷ [])) ∙ ap (λ (b : Bool). eqb x k || b) (is_in-snoc k y xs)
    ∙ or_assoc (eqb x k) (is_in k xs) (eqb y k) ∙ ap (λ (b : Bool). b || eqb y k) (sym (is_in-cons k x xs))

pub is_in-mid : (k : ℕ) (xs ys : List ℕ) → is_in k (xs ++ (k ∷ ys)) ≡ true
is_in-mid k [] ys = is_in-cons k k ys ∙ ap (λ (b : Bool). b || is_in k ys) (eq-eqb k k refl)
is_in-mid k (x ∷ xs) ys = is_in-cons k x (xs ++ (k ∷ ys)) ∙ or-2 (eqb x k) _ (is_in-mid k xs ys)

-- what is out stays out, and what is in stays in but for the one taken out
pub out-out : (k i : ℕ) (xs : List ℕ) → is_in k xs ≡ false → is_in k (without i xs) ≡ false
unfolding without
out-out k i [] e = e
out-out k zero (x ∷ xs) e = or_r (eqb x k) (is_in k xs) (sym (is_in-cons k x xs) ∙ e)
out-out k (suc i) (x ∷ xs) e =
    let f : eqb x k || is_in k xs ≡ false = sym (is_in-cons k x xs) ∙ e in
    is_in-cons k x (without i xs) ∙ or-false (eqb x k) _ (or_l (eqb x k) _ f) (out-out k i xs (or_r (eqb x k) _ f))

pub in-in : (k id : ℕ) (xs : List ℕ) → (id ≡ k → ⊥) → is_in k xs ≡ true → is_in k (without (place id xs) xs) ≡ true
unfolding without place
in-in k id [] h e = e
in-in k id (x ∷ xs) h e = go (in-in k id xs h) (eqb x id) refl
  where
    f : eqb x k || is_in k xs ≡ true
    f = sym (is_in-cons k x xs) ∙ e

    keep : (is_in k xs ≡ true → is_in k (without (place id xs) xs) ≡ true) → (b : Bool) → b || is_in k xs ≡ true
        → b || is_in k (without (place id xs) xs) ≡ true
    keep ih true q = refl
    keep ih false q = ih q

    go : (is_in k xs ≡ true → is_in k (without (place id xs) xs) ≡ true) → (b : Bool) → eqb x id ≡ b
        → is_in k (without (cond b 0 (suc (place id xs))) (x ∷ xs)) ≡ true
    go ih true q =
        let n : eqb x k ≡ false = ne_eqb x k (λ r. h (sym (eqb-true x id q) ∙ r)) in
        sym (ap (λ (b : Bool). b || is_in k xs) n) ∙ f
    go ih false q = is_in-cons k x (without (place id xs) xs) ∙ keep ih (eqb x k) f

module _ {A : Type 0} where
  pub length_without : (i : ℕ) (xs : List A) → length (without i xs) ≤ length xs
  unfolding without
  length_without i [] = omega arith
  length_without zero (x ∷ xs) = omega arith
  length_without (suc i) (x ∷ xs) = omega (arith, length_without i xs)

  pub scan-mid : (t : A → List A → Bool) (xs : List A) (y : A) (ys : List A) → scan t (xs ++ (y ∷ ys)) ≡ true → t y ys ≡ true
  unfolding scan
  scan-mid t [] y ys e = and_left _ (scan t ys) e
  scan-mid t (x ∷ xs) y ys e = scan-mid t xs y ys (and_right (t x (xs ++ (y ∷ ys))) _ e)

pub map-without : {A B : Type 0} (f : A → B) (i : ℕ) (xs : List A) → map f (without i xs) ≡ without i (map f xs)
unfolding without
map-without f i [] = refl
map-without f zero (x ∷ xs) = refl
map-without {B = B} f (suc i) (x ∷ xs) = ap {B = List B} (λ r. f x ∷ r) (map-without f i xs)

neg : (b : Bool) → b ≡ false → not b ≡ true
neg b e = ap not e

-- ---- what a number 0 says
module _ (k : Kind) (os rs : List Record) (id : ℕ) where
  few : (b : Bool) → ◌≡◌ {A = ℕ} (cond b 0 6) 0 → b ≡ true
  few true e = refl
  few false e = absurd (omega arith)

  room-few : (xs : List Record) → room_number k xs ≡ 0 → length xs < most k
  unfolding room_number
  room-few xs e = ltb-true (length xs) (most k) (few (ltb (length xs) (most k)) e)

  pub new-0 : new_number k rs id ≡ 0 → (is_in id (ids rs) ≡ false) × (length rs < most k)
  unfolding new_number
  new-0 e = ((go (is_in id (ids rs)) e).0, room-few rs (go (is_in id (ids rs)) e).1)
    where
      go : (b : Bool) → cond b 3 (room_number k rs) ≡ 0 → (b ≡ false) × (room_number k rs ≡ 0)
      go true e = absurd (omega arith)
      go false e = (refl, e)

  pub known-0 : known_number k os rs id ≡ 0 → (is_in id (ids os) ≡ true) × (length rs < most k)
  unfolding known_number
  known-0 e = ((go (is_in id (ids os)) e).0, room-few rs (go (is_in id (ids os)) e).1)
    where
      go : (b : Bool) → cond b (room_number k rs) 4 ≡ 0 → (b ≡ true) × (room_number k rs ≡ 0)
      go true e = (refl, e)
      go false e = absurd (omega arith)

  pub id-0 : id_number os rs id ≡ 0 → is_in id (ids rs) ≡ false
  unfolding id_number
  id-0 e = go (is_in id (ids os)) (is_in id (ids rs)) e
    where
      go : (b d : Bool) → ◌≡◌ {A = ℕ} (cond b (cond d 5 0) 4) 0 → d ≡ false
      go true true e = absurd (omega arith)
      go true false e = refl
      go false d e = absurd (omega arith)

-- ---- the scans of boxes or nets, after each change
module _ (k : Kind) where
  pub own-snoc : (rs : List Record) (r : Record) → scan (own k) rs ≡ true → ok_record k r ≡ true → is_in (key r) (ids rs) ≡ false
      → scan (own k) (rs ++ (r ∷ [])) ≡ true
  unfolding scan own
  own-snoc [] r e f g = both _ true (both _ _ f (neg _ g)) refl
  own-snoc (x ∷ rs) r e f g =
      let t : Bool = ok_record k x && not (is_in (key x) (ids rs)) in
      let te : t ≡ true = and_left t _ e in
      let u : eqb (key x) (key r) || is_in (key r) (ids rs) ≡ false = sym (is_in-cons (key r) (key x) (ids rs)) ∙ g in
      let ne : key x ≡ key r → ⊥ = eqb-false (key x) (key r) (or_l _ (is_in (key r) (ids rs)) u) in
      let out : is_in (key x) (ids rs) ≡ false = not-true _ (and_right (ok_record k x) _ te) in
      let v : is_in (key x) (ids (rs ++ (r ∷ []))) ≡ false =
      ap (is_in (key x)) (map-append key rs (r ∷ [])) ∙ is_in-snoc (key x) (key r) (ids rs)
      ∙ or-false _ _ out (ne_eqb (key r) (key x) (λ q. ne (sym q))) in
      both _ _ (both _ _ (and_left (ok_record k x) _ te) (neg _ v)) (own-snoc rs r (and_right t _ e) f (or_r (eqb (key x) (key r)) _ u))

  pub own-without : (i : ℕ) (rs : List Record) → scan (own k) rs ≡ true → scan (own k) (without i rs) ≡ true
  unfolding scan own without
  own-without i [] e = e
  own-without zero (x ∷ rs) e = and_right (ok_record k x && not (is_in (key x) (ids rs))) _ e
  own-without (suc i) (x ∷ rs) e =
      let t : Bool = ok_record k x && not (is_in (key x) (ids rs)) in
      let te : t ≡ true = and_left t _ e in
      let out : is_in (key x) (ids rs) ≡ false = not-true _ (and_right (ok_record k x) _ te) in
      let v : is_in (key x) (ids (without i rs)) ≡ false = ap (is_in (key x)) (map-without key i rs) ∙ out-out (key x) i (ids rs) out in
      both _ _ (both _ _ (and_left (ok_record k x) _ te) (neg _ v)) (own-without i rs (and_right t _ e))

  -- one that comes after others has none of their ids
  pub new-id : (rs : List Record) (r : Record) (qs : List Record) → scan (own k) (rs ++ (r ∷ qs)) ≡ true → is_in (key r) (ids rs) ≡ false
  unfolding scan own
  new-id [] r qs e = is_in-nil (key r)
  new-id (x ∷ rs) r qs e =
      let t : Bool = ok_record k x && not (is_in (key x) (ids (rs ++ (r ∷ qs)))) in
      let te : t ≡ true = and_left t _ e in
      let out : is_in (key x) (ids rs ++ (key r ∷ ids qs)) ≡ false =
      sym (ap (is_in (key x)) (map-append key rs (r ∷ qs))) ∙ not-true _ (and_right (ok_record k x) _ te) in
      let ne : key x ≡ key r → ⊥ =
      λ q. true≢false (sym (is_in-mid (key x) (ids rs) (ids qs)) ∙ ap (λ (n : ℕ). is_in (key x) (ids rs ++ (n ∷ ids qs))) q ∙ out) in
      is_in-cons (key r) (key x) (ids rs) ∙ or-false _ _ (ne_eqb (key x) (key r) ne) (new-id rs r qs (and_right t _ e))

  -- ---- the scans of ports or ends: os are the boxes or nets
  pub belong-snoc : (os rs : List Record) (r : Record) → scan (belongs k os) rs ≡ true → ok_record k r ≡ true → is_in (key r) (ids os) ≡ true
      → scan (belongs k os) (rs ++ (r ∷ [])) ≡ true
  unfolding scan belongs
  belong-snoc os [] r e f g = both _ true (both _ _ f g) refl
  belong-snoc os (x ∷ rs) r e f g =
      let t : Bool = ok_record k x && is_in (key x) (ids os) in
      both t _ (and_left t _ e) (belong-snoc os rs r (and_right t _ e) f g)

  pub belong-without : (os : List Record) (i : ℕ) (rs : List Record) → scan (belongs k os) rs ≡ true → scan (belongs k os) (without i rs) ≡ true
  unfolding scan belongs without
  belong-without os i [] e = e
  belong-without os zero (x ∷ rs) e = and_right (ok_record k x && is_in (key x) (ids os)) _ e
  belong-without os (suc i) (x ∷ rs) e =
      let t : Bool = ok_record k x && is_in (key x) (ids os) in
      both t _ (and_left t _ e) (belong-without os i rs (and_right t _ e))

  pub belong-among : (os ps : List Record) (id : ℕ) (rs : List Record)
      → ((n : ℕ) → (id ≡ n → ⊥) → is_in n (ids os) ≡ true → is_in n (ids ps) ≡ true) → is_in id (ids rs) ≡ false
      → scan (belongs k os) rs ≡ true → scan (belongs k ps) rs ≡ true
  unfolding scan belongs
  belong-among os ps id [] keep n e = e
  belong-among os ps id (x ∷ rs) keep n e =
      let t : Bool = ok_record k x && is_in (key x) (ids os) in
      let u : eqb (key x) id || is_in id (ids rs) ≡ false = sym (is_in-cons id (key x) (ids rs)) ∙ n in
      let ne : key x ≡ id → ⊥ = eqb-false (key x) id (or_l (eqb (key x) id) (is_in id (ids rs)) u) in
      let te : t ≡ true = and_left t _ e in
      both _ _ (both _ _ (and_left (ok_record k x) _ te) (keep (key x) (λ q. ne (sym q)) (and_right (ok_record k x) _ te)))
      (belong-among os ps id rs keep (or_r (eqb (key x) id) _ u) (and_right t _ e))

  pub belong-more : (os ps rs : List Record) → ((n : ℕ) → is_in n (ids os) ≡ true → is_in n (ids ps) ≡ true)
      → scan (belongs k os) rs ≡ true → scan (belongs k ps) rs ≡ true
  unfolding scan belongs
  belong-more os ps [] keep e = e
  belong-more os ps (x ∷ rs) keep e =
      let t : Bool = ok_record k x && is_in (key x) (ids os) in
      let te : t ≡ true = and_left t _ e in
      both _ _ (both _ _ (and_left (ok_record k x) _ te) (keep (key x) (and_right (ok_record k x) _ te))) (belong-more os ps rs keep (and_right t _ e))

-- ---- a list with its limit
module _ (k : Kind) (rs : List Record) where
  pub owners-make : length rs ≤ most k → scan (own k) rs ≡ true → ok_owners k rs ≡ true
  unfolding ok_owners
  owners-make h e = both _ _ (le-leb (length rs) (most k) h) e

  pub owners-few : ok_owners k rs ≡ true → length rs ≤ most k
  unfolding ok_owners
  owners-few e = leb-true (length rs) (most k) (and_left _ (scan (own k) rs) e)

  pub owners-scan : ok_owners k rs ≡ true → scan (own k) rs ≡ true
  unfolding ok_owners
  owners-scan e = and_right (leb (length rs) (most k)) _ e

  module _ (os : List Record) where
    pub members-make : length rs ≤ most k → scan (belongs k os) rs ≡ true → ok_members k os rs ≡ true
    unfolding ok_members
    members-make h e = both _ _ (le-leb (length rs) (most k) h) e

    pub members-few : ok_members k os rs ≡ true → length rs ≤ most k
    unfolding ok_members
    members-few e = leb-true (length rs) (most k) (and_left _ (scan (belongs k os) rs) e)

    pub members-scan : ok_members k os rs ≡ true → scan (belongs k os) rs ≡ true
    unfolding ok_members
    members-scan e = and_right (leb (length rs) (most k)) _ e

-- ---- boxes and their ports, or nets and their ends: o is the owners' kind, m the members'
module _ (o m : Kind) (os rs : List Record) (oks : ok_owners o os ≡ true) (okm : ok_members m os rs ≡ true) where
  pub more-owners : (r : Record) → ok_record o r ≡ true → is_in (key r) (ids os) ≡ false → length os < most o
      → (ok_owners o (os ++ (r ∷ [])) ≡ true) × (ok_members m (os ++ (r ∷ [])) rs ≡ true)
  more-owners r e f h =
      let more : (n : ℕ) → is_in n (ids os) ≡ true → is_in n (ids (os ++ (r ∷ []))) ≡ true =
      λ n q. ap (is_in n) (map-append key os (r ∷ [])) ∙ is_in-snoc n (key r) (ids os) ∙ ap (λ (t : Bool). t || eqb (key r) n) q in (
        owners-make o (os ++ (r ∷ [])) (rw (length-append os (r ∷ [])) (omega arith)) (own-snoc o os r (owners-scan o os oks) e f),
        members-make m rs (os ++ (r ∷ [])) (members-few m rs os okm) (belong-more m os (os ++ (r ∷ [])) rs more (members-scan m rs os okm)),
      )

  pub more-members : (r : Record) → ok_record m r ≡ true → is_in (key r) (ids os) ≡ true → length rs < most m → ok_members m os (rs ++ (r ∷ [])) ≡ true
  more-members r e f h =
      members-make m (rs ++ (r ∷ [])) os (rw (length-append rs (r ∷ [])) (omega arith)) (belong-snoc m os rs r (members-scan m rs os okm) e f)

  pub less-owners : (id : ℕ) → is_in id (ids rs) ≡ false
      → (ok_owners o (without (place id (ids os)) os) ≡ true) × (ok_members m (without (place id (ids os)) os) rs ≡ true)
  less-owners id e =
      let i : ℕ = place id (ids os) in (
        owners-make o (without i os) (omega (arith, owners-few o os oks, length_without i os)) (own-without o i os (owners-scan o os oks)),
        members-make m rs (without i os) (members-few m rs os okm)
            (belong-among m os (without i os) id rs (λ n h q. ap (is_in n) (map-without key i os) ∙ in-in n id (ids os) h q) e (members-scan m rs os okm)),
      )

  pub less-members : (i : ℕ) → ok_members m os (without i rs) ≡ true
  less-members i =
      members-make m (without i rs) os (omega (arith, members-few m rs os okm, length_without i rs)) (belong-without m os i rs (members-scan m rs os okm))

-- ---- the lists, after each change
make : (l : Lists) → ok_owners Kind.Box l.boxes ≡ true → ok_owners Kind.Net l.nets ≡ true → ok_members Kind.Port l.boxes l.ports ≡ true
    → ok_members Kind.End l.nets l.ends ≡ true → ok_lists l ≡ true
unfolding ok_lists
make l a b c d = both _ _ (both _ _ a b) (both _ _ c d)

module _ (l : Lists) (ok : ok_lists l ≡ true) where
  halves : (ok_owners Kind.Box l.boxes && ok_owners Kind.Net l.nets ≡ true)
      × (ok_members Kind.Port l.boxes l.ports && ok_members Kind.End l.nets l.ends ≡ true)
  unfolding ok_lists
  halves = (
    and_left _ (ok_members Kind.Port l.boxes l.ports && ok_members Kind.End l.nets l.ends) ok,
    and_right (ok_owners Kind.Box l.boxes && ok_owners Kind.Net l.nets) _ ok,
  )

  pub boxes-ok : ok_owners Kind.Box l.boxes ≡ true
  boxes-ok = and_left _ (ok_owners Kind.Net l.nets) halves.0

  pub nets-ok : ok_owners Kind.Net l.nets ≡ true
  nets-ok = and_right (ok_owners Kind.Box l.boxes) _ halves.0

  pub ports-ok : ok_members Kind.Port l.boxes l.ports ≡ true
  ports-ok = and_left _ (ok_members Kind.End l.nets l.ends) halves.1

  pub ends-ok : ok_members Kind.End l.nets l.ends ≡ true
  ends-ok = and_right (ok_members Kind.Port l.boxes l.ports) _ halves.1

  pub ok-with : (k : Kind) (r : Record) → ok_record k r ≡ true → add_number k l (key r) ≡ 0 → ok_lists (with_record k r l) ≡ true
  unfolding with_record
  ok-with Kind.Box r e z =
      let p = new-0 Kind.Box [] l.boxes (key r) z in
      let q = more-owners Kind.Box Kind.Port l.boxes l.ports boxes-ok ports-ok r e p.0 p.1 in
      make (with_list Kind.Box (l.boxes ++ (r ∷ [])) l) q.0 nets-ok q.1 ends-ok
  ok-with Kind.Port r e z =
      let p = known-0 Kind.Port l.boxes l.ports (key r) z in
      make (with_list Kind.Port (l.ports ++ (r ∷ [])) l) boxes-ok nets-ok (more-members Kind.Box Kind.Port l.boxes l.ports boxes-ok ports-ok r e p.0 p.1) ends-ok
  ok-with Kind.Net r e z =
      let p = new-0 Kind.Net [] l.nets (key r) z in
      let q = more-owners Kind.Net Kind.End l.nets l.ends nets-ok ends-ok r e p.0 p.1 in
      make (with_list Kind.Net (l.nets ++ (r ∷ [])) l) boxes-ok q.0 ports-ok q.1
  ok-with Kind.End r e z =
      let p = known-0 Kind.End l.nets l.ends (key r) z in
      make (with_list Kind.End (l.ends ++ (r ∷ [])) l) boxes-ok nets-ok ports-ok (more-members Kind.Net Kind.End l.nets l.ends nets-ok ends-ok r e p.0 p.1)

  pub ok-without : (k : Kind) (name : ℕ) → retire_number k l name ≡ 0 → ok_lists (without_record k name l) ≡ true
  unfolding without_record
  ok-without Kind.Box id z =
      let q = less-owners Kind.Box Kind.Port l.boxes l.ports boxes-ok ports-ok id (id-0 Kind.Box l.boxes l.ports id z) in
      make (with_list Kind.Box (without (place id (ids l.boxes)) l.boxes) l) q.0 nets-ok q.1 ends-ok
  ok-without Kind.Port at z =
      make (with_list Kind.Port (without at l.ports) l) boxes-ok nets-ok (less-members Kind.Box Kind.Port l.boxes l.ports boxes-ok ports-ok at) ends-ok
  ok-without Kind.Net id z =
      let q = less-owners Kind.Net Kind.End l.nets l.ends nets-ok ends-ok id (id-0 Kind.Net l.nets l.ends id z) in
      make (with_list Kind.Net (without (place id (ids l.nets)) l.nets) l) boxes-ok q.0 ports-ok q.1
  ok-without Kind.End at z =
      make (with_list Kind.End (without at l.ends) l) boxes-ok nets-ok ports-ok (less-members Kind.Net Kind.End l.nets l.ends nets-ok ends-ok at)

-- the book, after a change and after undo
tail-ok : (l : Lists) (ls : List Lists) → scan ok_copy (l ∷ ls) ≡ true → scan ok_copy ls ≡ true
unfolding scan
tail-ok l ls e = and_right (ok_copy l ls) _ e

back-nil : (b : Book) → valid b ≡ true → valid (back b []) ≡ true
unfolding back
back-nil b v = v

back-cons : (b : Book) (l : Lists) (ls : List Lists) → length (l ∷ ls) ≤ COPIES → scan ok_copy (l ∷ ls) ≡ true → valid (back b (l ∷ ls)) ≡ true
unfolding back valid
back-cons b l ls h e = both _ _ (le-leb (length ls) COPIES (omega arith)) e

copies-take : (k : ℕ) (ls : List Lists) → scan ok_copy ls ≡ true → scan ok_copy (take k ls) ≡ true
unfolding scan ok_copy
copies-take zero ls e = refl
copies-take (suc k) [] e = refl
copies-take (suc k) (l ∷ ls) e = both _ _ (and_left (ok_lists l) _ e) (copies-take k ls (and_right (ok_lists l) _ e))

module _ (b : Book) (v : valid b ≡ true) where
  all-ok : scan ok_copy (b.lists ∷ b.pile) ≡ true
  unfolding valid
  all-ok = and_right (leb (length b.pile) COPIES) _ v

  pub shallow : length b.pile ≤ COPIES
  unfolding valid
  shallow = leb-true (length b.pile) COPIES (and_left _ (scan ok_copy (b.lists ∷ b.pile)) v)

  pub lists-ok : ok_lists b.lists ≡ true
  unfolding scan ok_copy
  lists-ok = and_left _ (scan ok_copy b.pile) all-ok

  pub valid-change : (l : Lists) → ok_lists l ≡ true → valid (change b l) ≡ true
  unfolding valid change scan ok_copy
  valid-change l e =
      let s : List Lists = b.lists ∷ b.pile in
      both _ _ (le-leb (length (take COPIES s)) COPIES (rw (length-take COPIES s) (omega arith)))
      (both _ _ e (copies-take COPIES s all-ok))

  pub valid-back : valid (back b b.pile) ≡ true
  valid-back = go b.pile shallow (and-tail b.lists b.pile all-ok)
    where
      and-tail : (l : Lists) (ls : List Lists) → scan ok_copy (l ∷ ls) ≡ true → scan ok_copy ls ≡ true
      and-tail l ls e = tail-ok l ls e

      go : (ls : List Lists) → length ls ≤ COPIES → scan ok_copy ls ≡ true → valid (back b ls) ≡ true
      go [] h e = back-nil b v
      go (l ∷ ls) h e = back-cons b l ls h e
