-- Lists that keep their limits can be built from none: in kept order each record finds its number 0.
use mathlib.Core.Path.{◌≡◌, refl, ap, ◌∙◌}
use mathlib.Core.List.{List, [], ◌∷◌, ◌++◌, append_assoc, append-nil}
use mathlib.Core.Bool.{Bool, true}
use Prim.Native.Nat.{◌≤◌}
use native.Mathlib.Omega.{arith}
use lib.ListN.{length, length-append}
use borrow.Author.Tests.{lt-ltb}
use Rattle.fixed.proofs.Bools.{and_left, and_right}
use Rattle.rows.specs.Rows.{key, scan}
use Rattle.book.specs.Book.{Record, Lists, list, with_list, most, ok_record, own, belongs, ok_lists, room_number, new_number, known_number, add_number, with_record, no_lists, Item, items, in_order}
use Rattle.book.specs.declared.Kind.{Kind}
use Rattle.book.proofs.Keeps
use Rattle.book.proofs.ByKind.{list-with, with-list}

-- from the lists l, one record after the other, to the lists m
pub data Builds : Lists → List Item → Lists → Type 0 where
  none : {l : Lists} → Builds l [] l
  one : {l m : Lists} {i : Item} {is : List Item} → ok_record i.kind i.row ≡ true → add_number i.kind l (key i.row) ≡ 0
      → Builds (with_record i.kind i.row l) is m → Builds l (i ∷ is) m

-- ---- a record among those of its kind
abbrev fits : Kind → Lists → Record → List Record → Bool
fits Kind.Box l = own Kind.Box
fits Kind.Port l = belongs Kind.Port l.boxes
fits Kind.Net l = own Kind.Net
fits Kind.End l = belongs Kind.End l.nets

same-fits : (k : Kind) (xs : List Record) (l : Lists) → fits k (with_list k xs l) ≡ fits k l
same-fits Kind.Box xs l = refl
same-fits Kind.Port xs l = refl
same-fits Kind.Net xs l = refl
same-fits Kind.End xs l = refl

twice : (k : Kind) (xs ys : List Record) (l : Lists) → with_list k xs (with_list k ys l) ≡ with_list k xs l
twice Kind.Box xs ys l = refl
twice Kind.Port xs ys l = refl
twice Kind.Net xs ys l = refl
twice Kind.End xs ys l = refl

module _ (k : Kind) (os rs : List Record) (r : Record) (qs : List Record) (h : length (rs ++ (r ∷ qs)) ≤ most k) where
  room : room_number k rs ≡ 0
  unfolding room_number
  room = rw (lt-ltb (length rs) (most k) (omega (arith, length-append rs (r ∷ qs))))

  own-adds : scan (own k) (rs ++ (r ∷ qs)) ≡ true → (ok_record k r ≡ true) × (new_number k rs (key r) ≡ 0)
  unfolding new_number own
  own-adds s = (and_left (ok_record k r) _ (Keeps.scan-mid (own k) rs r qs s), rw (Keeps.new-id k rs r qs s) room)

  member-adds : scan (belongs k os) (rs ++ (r ∷ qs)) ≡ true → (ok_record k r ≡ true) × (known_number k os rs (key r) ≡ 0)
  unfolding known_number belongs
  member-adds s =
      let t = Keeps.scan-mid (belongs k os) rs r qs s in
      (and_left (ok_record k r) _ t, rw (and_right (ok_record k r) _ t) room)

adds : (k : Kind) (l : Lists) (r : Record) (qs : List Record) → scan (fits k l) (list k l ++ (r ∷ qs)) ≡ true → length (list k l ++ (r ∷ qs)) ≤ most k
    → (ok_record k r ≡ true) × (add_number k l (key r) ≡ 0)
adds Kind.Box l r qs s h = own-adds Kind.Box [] l.boxes r qs h s
adds Kind.Port l r qs s h = member-adds Kind.Port l.boxes l.ports r qs h s
adds Kind.Net l r qs s h = own-adds Kind.Net [] l.nets r qs h s
adds Kind.End l r qs s h = member-adds Kind.End l.nets l.ends r qs h s

-- ---- the rest of a list of kind k behind what stands there
build : (k : Kind) (qs : List Record) (l : Lists) → scan (fits k l) (list k l ++ qs) ≡ true → length (list k l ++ qs) ≤ most k
    → Builds l (items k qs) (with_list k (list k l ++ qs) l)
unfolding items with_record
build k [] l s n = rw (append-nil (list k l), with-list k l) none
build k (r ∷ qs) l s n =
    let p = adds k l r qs s n in
    let l₁ : Lists = with_list k (list k l ++ (r ∷ [])) l in
    let q : list k l₁ ++ qs ≡ list k l ++ (r ∷ qs) = ap (λ (t : List Record). t ++ qs) (list-with k (list k l ++ (r ∷ [])) l) ∙ append_assoc (list k l) (r ∷ []) qs in
    let s₁ : scan (fits k l₁) (list k l₁ ++ qs) ≡ true =
    ap (λ (t : Record → List Record → Bool). scan t (list k l₁ ++ qs)) (same-fits k (list k l ++ (r ∷ [])) l) ∙ ap (scan (fits k l)) q ∙ s in
    let b : Builds l₁ (items k qs) (with_list k (list k l₁ ++ qs) l₁) = build k qs l₁ s₁ (omega (arith, ap length q)) in
    let e : with_list k (list k l₁ ++ qs) l₁ ≡ with_list k (list k l ++ (r ∷ qs)) l =
    ap (λ (t : List Record). with_list k t l₁) q ∙ twice k (list k l ++ (r ∷ qs)) (list k l ++ (r ∷ [])) l in
    one p.0 p.1 (rw e at b)

on : {l m n : Lists} {is js : List Item} → Builds l is m → Builds m js n → Builds l (is ++ js) n
on none h = h
on (one o z g) h = one o z (on g h)

pub builds : (l : Lists) → ok_lists l ≡ true → Builds no_lists (in_order l) l
unfolding in_order
builds l ok =
    let l₁ : Lists = with_list Kind.Box l.boxes no_lists in
    let l₂ : Lists = with_list Kind.Port l.ports l₁ in
    let l₃ : Lists = with_list Kind.Net l.nets l₂ in
    let b = build Kind.Box l.boxes no_lists (Keeps.owners-scan Kind.Box l.boxes (Keeps.boxes-ok l ok)) (Keeps.owners-few Kind.Box l.boxes (Keeps.boxes-ok l ok)) in
    let p = build Kind.Port l.ports l₁ (Keeps.members-scan Kind.Port l.ports l.boxes (Keeps.ports-ok l ok)) (Keeps.members-few Kind.Port l.ports l.boxes (Keeps.ports-ok l ok)) in
    let n = build Kind.Net l.nets l₂ (Keeps.owners-scan Kind.Net l.nets (Keeps.nets-ok l ok)) (Keeps.owners-few Kind.Net l.nets (Keeps.nets-ok l ok)) in
    let e = build Kind.End l.ends l₃ (Keeps.members-scan Kind.End l.ends l.nets (Keeps.ends-ok l ok)) (Keeps.members-few Kind.End l.ends l.nets (Keeps.ends-ok l ok)) in
    on b (on p (on n e))
