-- Undo entries on the lists alone: an entry brings back what was, and the test of an entry is the test of a retirement or of an addition.
--     before-added, before-retired     an entry laid with a change stands for the lists before it
--     copies-take                      32 entries stand for 32 copies
--     out-ok, back-ok                  exactly when an entry leaves lists that keep the limits
use mathlib.Core.Path.{◌≡◌, refl, sym, ap, ◌∙◌}
use mathlib.Core.List.{List, [], ◌∷◌, ◌++◌, map-append}
use mathlib.Core.Bool.{Bool, true, false, not, cond, ◌&&◌, ◌||◌, true≢false}
use Prim.Native.Nat.{ℕ, zero, suc, ◌+◌, ◌-◌, ◌<◌}
use native.Mathlib.Omega.{arith}
use lib.ListN.{length, get_or, take, length-append}
use lib.Dec.{eqb, ltb, leb}
use borrow.Author.Tests.{eq-eqb, ne_eqb, eqb-true, le-leb, lt-ltb}
use Rattle.fixed.proofs.Bools.{and_left, and_right}
use Rattle.rows.specs.Rows.{key, ids, scan, is_in, without, inserted}
use Rattle.book.specs.Book.{Record, Lists, list, with_list, most, ok_record, fields_number_in, ranged, own, belongs, ok_owners, ok_members, ok_lists}
use Rattle.book.specs.Book.{room_number, new_number, known_number, add_number, with_record}
use Rattle.book.specs.Entries.{Entry, out, back, applies, restored, no_desk, before, copies, is_held}
use Rattle.book.specs.declared.Kind.{Kind}
use Rattle.book.proofs.ByKind.{list-with}
use Rattle.book.proofs.Keeps

-- ---- lists
module _ {A : Type 0} where
  pub inserted-without : (i : ℕ) (xs : List A) (d : A) → i < length xs → inserted i (get_or xs i d) (without i xs) ≡ xs
  unfolding inserted without
  inserted-without i [] d h = absurd (omega arith)
  inserted-without zero (x ∷ xs) d h = refl
  inserted-without (suc i) (x ∷ xs) d h = ap (λ (t : List A). x ∷ t) (inserted-without i xs d (omega arith))

  pub length_inserted : (i : ℕ) (x : A) (xs : List A) → length (inserted i x xs) ≡ suc (length xs)
  unfolding inserted
  length_inserted zero x xs = refl
  length_inserted (suc i) x [] = refl
  length_inserted (suc i) x (y ∷ ys) = ap suc (length_inserted i x ys)

  pub length-out : (i : ℕ) (xs : List A) → i < length xs → length (without i xs) + 1 ≡ length xs
  unfolding without
  length-out i [] h = absurd (omega arith)
  length-out zero (x ∷ xs) h = omega arith
  length-out (suc i) (x ∷ xs) h = omega (arith, length-out i xs (omega arith))

  without-last : (ys : List A) (x : A) → without (length ys) (ys ++ (x ∷ [])) ≡ ys
  unfolding without
  without-last [] x = refl
  without-last (y ∷ ys) x = ap (λ (t : List A). y ∷ t) (without-last ys x)

  pub without-snoc : (xs : List A) (x : A) → without (length (xs ++ (x ∷ [])) - 1) (xs ++ (x ∷ [])) ≡ xs
  without-snoc xs x =
      let e : length (xs ++ (x ∷ [])) - 1 ≡ length xs = rw (length-append xs (x ∷ [])) (omega arith) in
      ap (λ (n : ℕ). without n (xs ++ (x ∷ []))) e ∙ without-last xs x

  snoc-at : (n : ℕ) (xs : List A) (d : A) → length xs ≡ suc n → without n xs ++ (get_or xs n d ∷ []) ≡ xs
  unfolding without
  snoc-at n [] d h = absurd (omega (arith, h))
  snoc-at zero (x ∷ []) d h = refl
  snoc-at zero (x ∷ y ∷ xs) d h = absurd (omega (arith, h))
  snoc-at (suc n) (x ∷ xs) d h = ap (λ (t : List A). x ∷ t) (snoc-at n xs d (omega (arith, h)))

  pub snoc-split : (xs : List A) (d : A) → 0 < length xs → without (length xs - 1) xs ++ (get_or xs (length xs - 1) d ∷ []) ≡ xs
  snoc-split xs d h = snoc-at (length xs - 1) xs d (omega arith)

-- ---- an entry laid with a change stands for the lists before it
set_back : (k : Kind) (rs qs : List Record) (l : Lists) → qs ≡ list k l → with_list k qs (with_list k rs l) ≡ l
set_back Kind.Box rs qs l e = rw e
set_back Kind.Port rs qs l e = rw e
set_back Kind.Net rs qs l e = rw e
set_back Kind.End rs qs l e = rw e

pub before-added : (k : Kind) (r : Record) (l : Lists) → before (out k) (with_record k r l) ≡ l
unfolding before applies restored with_record
before-added k r l =
    let rs : List Record = list k l ++ (r ∷ []) in
    let e : list k (with_list k rs l) ≡ rs = list-with k rs l in
    let h : ltb 0 (length rs) ≡ true = lt-ltb 0 (length rs) (rw (length-append (list k l) (r ∷ [])) (omega arith)) in
    rw (e, h) (set_back k rs (without (length rs - 1) rs) l (without-snoc (list k l) r))

pub before-retired : (k : Kind) (i : ℕ) (l : Lists) → i < length (list k l) → before (back k i (get_or (list k l) i [])) (with_list k (without i (list k l)) l) ≡ l
unfolding before applies restored
before-retired k i l hi =
    let rs : List Record = without i (list k l) in
    let e : list k (with_list k rs l) ≡ rs = list-with k rs l in
    let h : leb i (length rs) ≡ true = le-leb i (length rs) (omega (arith, length-out i (list k l) hi)) in
    rw (e, h) (set_back k rs (inserted i (get_or (list k l) i []) rs) l (inserted-without i (list k l) [] hi))

pub copies-take : (n : ℕ) (es : List Entry) (l : Lists) → copies (take n es) l ≡ take n (copies es l)
unfolding copies
copies-take zero es l = refl
copies-take (suc n) [] l = refl
copies-take (suc n) (e ∷ es) l = ap (λ (t : List Lists). before e l ∷ t) (copies-take n es (before e l))

pub length-copies : (es : List Entry) (l : Lists) → length (copies es l) ≡ length es
unfolding copies
length-copies [] l = refl
length-copies (e ∷ es) l = ap suc (length-copies es (before e l))

-- ---- lists that no desk has
pub no-desk : ok_lists no_desk ≡ false
unfolding ok_lists ok_owners scan own ok_record fields_number_in ranged
no-desk = refl

-- an entry that leaves lists that keep the limits applies
pub applied : (e : Entry) (l : Lists) → ok_lists (before e l) ≡ true → (applies e l ≡ true) × (before e l ≡ restored e l)
unfolding before
applied e l ok = go (applies e l) refl ok
  where
    go : (b : Bool) → applies e l ≡ b → ok_lists (cond b (restored e l) no_desk) ≡ true → (b ≡ true) × (cond b (restored e l) no_desk ≡ restored e l)
    go true t ok = (refl, refl)
    go false t ok = absurd (true≢false (sym ok ∙ no-desk))

pub unapplied : (e : Entry) (l : Lists) → applies e l ≡ false → ok_lists (before e l) ≡ false
unfolding before
unapplied e l h = rw h no-desk

-- ---- exactly when a list with a record put in fits
pub ids-inserted : (i : ℕ) (r : Record) (rs : List Record) → ids (inserted i r rs) ≡ inserted i (key r) (ids rs)
unfolding inserted
ids-inserted zero r rs = refl
ids-inserted (suc i) r [] = refl
ids-inserted (suc i) r (x ∷ rs) = ap (λ (t : List ℕ). key x ∷ t) (ids-inserted i r rs)

or_swap : (a b c : Bool) → a || (b || c) ≡ b || (a || c)
or_swap true true c = refl
or_swap true false c = refl
or_swap false b c = refl

pub is_in-inserted : (k i x : ℕ) (xs : List ℕ) → is_in k (inserted i x xs) ≡ eqb x k || is_in k xs
unfolding inserted
is_in-inserted k zero x xs = Keeps.is_in-cons k x xs
is_in-inserted k (suc i) x [] = Keeps.is_in-cons k x []
is_in-inserted k (suc i) x (y ∷ ys) =
    Keeps.is_in-cons k y (inserted i x ys) ∙ ap (λ (b : Bool). eqb y k || b) (is_in-inserted k i x ys) ∙ or_swap (eqb y k) (eqb x k) (is_in k ys)
    ∙ ap (λ (b : Bool). eqb x k || b) (sym (Keeps.is_in-cons k y ys))

eqb-sym : (a b : ℕ) → eqb a b ≡ eqb b a
eqb-sym a b = go (eqb b a) refl
  where
    go : (t : Bool) → eqb b a ≡ t → eqb a b ≡ t
    go true e = eq-eqb a b (sym (eqb-true b a e))
    go false e = ne_eqb a b (λ q. true≢false (sym (eq-eqb b a (sym q)) ∙ e))

-- with ids distinct among rs: distinct with r put in exactly if r's id is new
shuffle : (o p x y b : Bool) → o && not p ≡ true → (o && not (x || p)) && (y && not b) ≡ y && not (x || b)
shuffle true false true true b e = refl
shuffle true false true false b e = refl
shuffle true false false true b e = refl
shuffle true false false false b e = refl
shuffle true true x y b e = absurd (true≢false (sym e))
shuffle false p x y b e = absurd (true≢false (sym e))

and-true : (b : Bool) → b && true ≡ b
and-true true = refl
and-true false = refl

pub own-inserted : (k : Kind) (i : ℕ) (r : Record) (rs : List Record) → scan (own k) rs ≡ true → scan (own k) (inserted i r rs) ≡ ok_record k r && not (is_in (key r) (ids rs))
unfolding inserted scan own
own-inserted k zero r rs e = ap (λ (t : Bool). (ok_record k r && not (is_in (key r) (ids rs))) && t) e ∙ and-true (ok_record k r && not (is_in (key r) (ids rs)))
own-inserted k (suc i) r [] e = and-true (ok_record k r && not (is_in (key r) (ids [])))
own-inserted k (suc i) r (x ∷ rs) e =
    let t : Bool = ok_record k x && not (is_in (key x) (ids rs)) in
    let h : t ≡ true = and_left t (scan (own k) rs) e in
    let p : is_in (key x) (ids (inserted i r rs)) ≡ eqb (key r) (key x) || is_in (key x) (ids rs) = ap (is_in (key x)) (ids-inserted i r rs) ∙ is_in-inserted (key x) i (key r) (ids rs) in
    let q : is_in (key r) (key x ∷ ids rs) ≡ eqb (key r) (key x) || is_in (key r) (ids rs) =
    Keeps.is_in-cons (key r) (key x) (ids rs) ∙ ap (λ (b : Bool). b || is_in (key r) (ids rs)) (eqb-sym (key x) (key r)) in
    rw (p, q, own-inserted k i r rs (and_right t (scan (own k) rs) e)) (shuffle (ok_record k x) (is_in (key x) (ids rs)) (eqb (key r) (key x)) (ok_record k r) (is_in (key r) (ids rs)) h)

swap_and : (a b : Bool) → a ≡ true → a && b ≡ b
swap_and a b e = rw e

pub belong-inserted : (k : Kind) (os : List Record) (i : ℕ) (r : Record) (rs : List Record) → scan (belongs k os) rs ≡ true
    → scan (belongs k os) (inserted i r rs) ≡ ok_record k r && is_in (key r) (ids os)
unfolding inserted scan belongs
belong-inserted k os zero r rs e = ap (λ (t : Bool). (ok_record k r && is_in (key r) (ids os)) && t) e ∙ and-true (ok_record k r && is_in (key r) (ids os))
belong-inserted k os (suc i) r [] e = and-true (ok_record k r && is_in (key r) (ids os))
belong-inserted k os (suc i) r (x ∷ rs) e =
    let t : Bool = ok_record k x && is_in (key x) (ids os) in
    swap_and t _ (and_left t (scan (belongs k os) rs) e) ∙ belong-inserted k os i r rs (and_right t (scan (belongs k os) rs) e)

-- ---- exactly when the last owner may go: no record belongs to it
one_of : (a b : Bool) → a || b ≡ true → b ≡ false → a ≡ true
one_of true b e f = refl
one_of false b e f = absurd (true≢false (sym e ∙ f))

pub last-owner : (k : Kind) (os : List Record) (o : Record) (rs : List Record) → is_in (key o) (ids os) ≡ false
    → scan (belongs k (os ++ (o ∷ []))) rs ≡ true → scan (belongs k os) rs ≡ not (is_in (key o) (ids rs))
unfolding scan belongs
last-owner k os o [] n e = sym (ap not (Keeps.is_in-nil (key o)))
last-owner k os o (x ∷ rs) n e =
    let t : Bool = ok_record k x && is_in (key x) (ids (os ++ (o ∷ []))) in
    let te : t ≡ true = and_left t _ e in
    let m : is_in (key x) (ids os) || eqb (key o) (key x) ≡ true = sym (ap (is_in (key x)) (map-append key os (o ∷ [])) ∙ Keeps.is_in-snoc (key x) (key o) (ids os)) ∙ and_right (ok_record k x) _ te in
    by (eqb (key x) (key o)) refl m (and_left (ok_record k x) _ te) (last-owner k os o rs n (and_right t _ e))
  where
    by : (b : Bool) → eqb (key x) (key o) ≡ b → is_in (key x) (ids os) || eqb (key o) (key x) ≡ true → ok_record k x ≡ true → scan (belongs k os) rs ≡ not (is_in (key o) (ids rs))
        → (ok_record k x && is_in (key x) (ids os)) && scan (belongs k os) rs ≡ not (is_in (key o) (key x ∷ ids rs))
    by true q m f ih = rw (Keeps.is_in-cons (key o) (key x) (ids rs), q, f, ap (λ (j : ℕ). is_in j (ids os)) (eqb-true (key x) (key o) q) ∙ n)
    by false q m f ih = rw (Keeps.is_in-cons (key o) (key x) (ids rs), q, f, one_of (is_in (key x) (ids os)) (eqb (key o) (key x)) m (eqb-sym (key o) (key x) ∙ q)) ih

-- ---- a list with its limit
swap3 : (n o i : Bool) → n && (o && not i) ≡ o && eqb (cond i 3 (cond n 0 6)) 0
swap3 true true true = refl
swap3 true true false = refl
swap3 true false i = refl
swap3 false true true = refl
swap3 false true false = refl
swap3 false false i = refl

swap4 : (n o i : Bool) → n && (o && i) ≡ o && eqb (cond i (cond n 0 6) 4) 0
swap4 true true true = refl
swap4 true true false = refl
swap4 true false i = refl
swap4 false true true = refl
swap4 false true false = refl
swap4 false false i = refl

module _ (k : Kind) (i : ℕ) (r : Record) where
  pub owners-inserted : (rs : List Record) → ok_owners k rs ≡ true → ok_owners k (inserted i r rs) ≡ ok_record k r && eqb (new_number k rs (key r)) 0
  unfolding ok_owners new_number room_number
  owners-inserted rs ok =
      rw (length_inserted i r rs, own-inserted k i r rs (Keeps.owners-scan k rs ok))
      (swap3 (ltb (length rs) (most k)) (ok_record k r) (is_in (key r) (ids rs)))

  pub members-inserted : (os rs : List Record) → ok_members k os rs ≡ true → ok_members k os (inserted i r rs) ≡ ok_record k r && eqb (known_number k os rs (key r)) 0
  unfolding ok_members known_number room_number
  members-inserted os rs ok =
      rw (length_inserted i r rs, belong-inserted k os i r rs (Keeps.members-scan k rs os ok))
      (swap4 (ltb (length rs) (most k)) (ok_record k r) (is_in (key r) (ids os)))

  -- the members stay: there is an owner more
  pub members-stay : (m : Kind) (os rs : List Record) → ok_members m os rs ≡ true → ok_members m (inserted i r os) rs ≡ true
  members-stay m os rs ok =
      Keeps.members-make m rs (inserted i r os) (Keeps.members-few m rs os ok)
      (Keeps.belong-more m os (inserted i r os) rs
      (λ n q. ap (is_in n) (ids-inserted i r os) ∙ is_in-inserted n i (key r) (ids os) ∙ Keeps.or-2 (eqb (key r) n) (is_in n (ids os)) q)
      (Keeps.members-scan m rs os ok))

-- the owners without the last, and their members
module _ (o m : Kind) (os rs : List Record) (oks : ok_owners o os ≡ true) (okm : ok_members m os rs ≡ true) (some : 0 < length os) where
  abbrev i : ℕ
  i = length os - 1

  abbrev last : Record
  last = get_or os i []

  split : without i os ++ (last ∷ []) ≡ os
  split = snoc-split os [] some

  pub owners-less : ok_owners o (without i os) ≡ true
  owners-less = Keeps.owners-make o (without i os) (omega (arith, Keeps.owners-few o os oks, Keeps.length_without i os)) (Keeps.own-without o i os (Keeps.owners-scan o os oks))

  new : is_in (key last) (ids (without i os)) ≡ false
  new = Keeps.new-id o (without i os) last [] (ap (scan (own o)) split ∙ Keeps.owners-scan o os oks)

  pub members-less : ok_members m (without i os) rs ≡ not (is_in (key last) (ids rs))
  unfolding ok_members
  members-less =
      rw (le-leb (length rs) (most m) (Keeps.members-few m rs os okm))
      (last-owner m (without i os) last rs new (ap (λ (t : List Record). scan (belongs m t) rs) split ∙ Keeps.members-scan m rs os okm))

-- ---- the lists
module _ (l : Lists) (ok : ok_lists l ≡ true) where
  by_parts : (bs ps ns es : List Record) (a b c d : Bool) → ok_owners Kind.Box bs ≡ a → ok_owners Kind.Net ns ≡ b → ok_members Kind.Port bs ps ≡ c → ok_members Kind.End ns es ≡ d
      → ok_lists (record { boxes = bs; ports = ps; nets = ns; ends = es }) ≡ (a && b) && (c && d)
  unfolding ok_lists
  by_parts bs ps ns es a b c d ea eb ec ed = rw (ea, eb, ec, ed)

  abbrev B : ok_owners Kind.Box l.boxes ≡ true
  B = Keeps.boxes-ok l ok

  abbrev N : ok_owners Kind.Net l.nets ≡ true
  N = Keeps.nets-ok l ok

  abbrev P : ok_members Kind.Port l.boxes l.ports ≡ true
  P = Keeps.ports-ok l ok

  abbrev E : ok_members Kind.End l.nets l.ends ≡ true
  E = Keeps.ends-ok l ok

  t1 : (a : Bool) → (a && true) && (true && true) ≡ a
  t1 true = refl
  t1 false = refl

  t2 : (a : Bool) → (true && a) && (true && true) ≡ a
  t2 true = refl
  t2 false = refl

  t3 : (a : Bool) → (true && true) && (a && true) ≡ a
  t3 true = refl
  t3 false = refl

  t4 : (a : Bool) → (true && true) && (true && a) ≡ a
  t4 true = refl
  t4 false = refl

  pub back-ok : (k : Kind) (i : ℕ) (r : Record) → ok_lists (restored (back k i r) l) ≡ ok_record k r && eqb (add_number k l (key r)) 0
  unfolding restored
  back-ok Kind.Box i r =
      by_parts (inserted i r l.boxes) l.ports l.nets l.ends _ _ _ _ (owners-inserted Kind.Box i r l.boxes B) N (members-stay Kind.Box i r Kind.Port l.boxes l.ports P) E
      ∙ t1 (ok_record Kind.Box r && eqb (new_number Kind.Box l.boxes (key r)) 0)
  back-ok Kind.Port i r =
      by_parts l.boxes (inserted i r l.ports) l.nets l.ends _ _ _ _ B N (members-inserted Kind.Port i r l.boxes l.ports P) E
      ∙ t3 (ok_record Kind.Port r && eqb (known_number Kind.Port l.boxes l.ports (key r)) 0)
  back-ok Kind.Net i r =
      by_parts l.boxes l.ports (inserted i r l.nets) l.ends _ _ _ _ B (owners-inserted Kind.Net i r l.nets N) P (members-stay Kind.Net i r Kind.End l.nets l.ends E)
      ∙ t2 (ok_record Kind.Net r && eqb (new_number Kind.Net l.nets (key r)) 0)
  back-ok Kind.End i r =
      by_parts l.boxes l.ports l.nets (inserted i r l.ends) _ _ _ _ B N P (members-inserted Kind.End i r l.nets l.ends E)
      ∙ t4 (ok_record Kind.End r && eqb (known_number Kind.End l.nets l.ends (key r)) 0)

  pub out-ok : (k : Kind) → 0 < length (list k l) → ok_lists (restored (out k) l) ≡ not (is_held k l (length (list k l) - 1))
  unfolding restored
  out-ok Kind.Box h =
      by_parts (without (length l.boxes - 1) l.boxes) l.ports l.nets l.ends _ _ _ _
      (owners-less Kind.Box Kind.Port l.boxes l.ports B P h) N (members-less Kind.Box Kind.Port l.boxes l.ports B P h) E
      ∙ t3 (not (is_in (key (get_or l.boxes (length l.boxes - 1) [])) (ids l.ports)))
  out-ok Kind.Port h =
      by_parts l.boxes (without (length l.ports - 1) l.ports) l.nets l.ends _ _ _ _ B N (Keeps.less-members Kind.Box Kind.Port l.boxes l.ports B P (length l.ports - 1)) E
  out-ok Kind.Net h =
      by_parts l.boxes l.ports (without (length l.nets - 1) l.nets) l.ends _ _ _ _
      B (owners-less Kind.Net Kind.End l.nets l.ends N E h) P (members-less Kind.Net Kind.End l.nets l.ends N E h)
      ∙ t4 (not (is_in (key (get_or l.nets (length l.nets - 1) [])) (ids l.ends)))
  out-ok Kind.End h =
      by_parts l.boxes l.ports l.nets (without (length l.ends - 1) l.ends) _ _ _ _ B N P (Keeps.less-members Kind.Net Kind.End l.nets l.ends N E (length l.ends - 1))
