-- Other names for the ids change no number, and the change that is made is the renamed one.
--     swaps                                    two ids may be swapped
--     valid-renamed                            a book keeps the limits
--     fields-number, name-number               the numbers of a record's fields and of a name
--     add-number, retire-number                the numbers of an addition and of a retirement
--     with-renamed, without-renamed, change-renamed, back-renamed    changes
use mathlib.Core.Path.{◌≡◌, refl, sym, ap, ◌∙◌}
use mathlib.Core.List.{List, [], ◌∷◌, map, map-append}
use mathlib.Core.Bool.{Bool, true, false, cond}
use Prim.Native.Nat.{ℕ}
use native.Mathlib.Omega.{arith}
use lib.ListN.{length, length-map}
use lib.Dec.{eqb, leb}
use borrow.Author.Tests.{eq-eqb, ne_eqb, eqb-true, eqb-false, leb-true}
use Rattle.fixed.proofs.Bools.{and_left}
use Rattle.rows.specs.Rows.{key, ids, scan, place, is_in, without}
use Rattle.rows.proofs.Rows.{take-map}
use Rattle.book.specs.Sizes.{IDS, COPIES}
use Rattle.book.specs.Book.{Record, Lists, Book, ok_id_in, ok_id, ok_fields, fields_number_in, fields_number, ok_record, own, belongs, ok_owners, ok_members, ok_lists, ok_copy, valid}
use Rattle.book.specs.Book.{room_number, new_number, known_number, add_number, id_number, place_number, retire_number, name_number, spot, list, with_list, with_record, without_record, change, back}
use Rattle.book.specs.Renamed.{Renames, swapped, Swaps, renamed, renamed_lists, renamed_book, renamed_name}
use Rattle.book.specs.declared.Kind.{Kind}
use Rattle.book.proofs.Keeps.{map-without}

-- ---- two ids swapped
module _ (a b : ℕ) where
  to_b : swapped a b a ≡ b
  unfolding swapped
  to_b = rw (eq-eqb a a refl)

  to_a : swapped a b b ≡ a
  unfolding swapped
  to_a = go (eqb b a) refl
    where
      go : (t : Bool) → eqb b a ≡ t → cond t b (cond (eqb b b) a b) ≡ a
      go true e = eqb-true b a e
      go false e = rw (eq-eqb b b refl)

  stays : (id : ℕ) → eqb id a ≡ false → eqb id b ≡ false → swapped a b id ≡ id
  unfolding swapped
  stays id e g = rw (e, g)

  twice : (id : ℕ) → swapped a b (swapped a b id) ≡ id
  twice id = go (eqb id a) refl (eqb id b) refl
    where
      go : (t : Bool) → eqb id a ≡ t → (u : Bool) → eqb id b ≡ u → swapped a b (swapped a b id) ≡ id
      go true e u g = rw (eqb-true id a e, to_b, to_a)
      go false e true g = rw (eqb-true id b g, to_a, to_b)
      go false e false g = rw (stays id e g, stays id e g)

  swap-ok : ok_id a ≡ true → ok_id b ≡ true → (id : ℕ) → ok_id (swapped a b id) ≡ ok_id id
  swap-ok oa ob id = go (eqb id a) refl (eqb id b) refl
    where
      go : (t : Bool) → eqb id a ≡ t → (u : Bool) → eqb id b ≡ u → ok_id (swapped a b id) ≡ ok_id id
      go true e u g = rw (eqb-true id a e, to_b, oa) ob
      go false e true g = rw (eqb-true id b g, to_a, ob) oa
      go false e false g = rw (stays id e g)

no-id : (a : ℕ) → ok_id a ≡ true → eqb 0 a ≡ false
unfolding ok_id_in
no-id a o = ne_eqb 0 a (λ z. omega (arith, leb-true 1 a (and_left (leb 1 a) (leb a IDS) o)))

pub swaps : Swaps
swaps a b oa ob =
    record {
      apart = λ x y e. sym (twice a b x) ∙ ap (swapped a b) e ∙ twice a b y;
      ok = swap-ok a b oa ob;
      none = stays a b 0 (no-id a oa) (no-id b ob);
    }

module _ (f : ℕ → ℕ) (q : Renames f) where
  -- ---- ids
  same_id : (a b : ℕ) → eqb (f a) (f b) ≡ eqb a b
  same_id a b = go (eqb a b) refl
    where
      go : (t : Bool) → eqb a b ≡ t → eqb (f a) (f b) ≡ t
      go true e = eq-eqb (f a) (f b) (ap f (eqb-true a b e))
      go false e = ne_eqb (f a) (f b) (λ z. eqb-false a b e (q.apart a b z))

  same_place : (a : ℕ) (xs : List ℕ) → place (f a) (map f xs) ≡ place a xs
  unfolding place
  same_place a [] = refl
  same_place a (x ∷ xs) = rw (same_id x a, same_place a xs)

  same-is_in : (a : ℕ) (xs : List ℕ) → is_in (f a) (map f xs) ≡ is_in a xs
  unfolding is_in
  same-is_in a xs = rw (same_place a xs, length-map xs f)

  -- ---- a record
  pub key-renamed : (r : Record) → key (renamed f r) ≡ f (key r)
  unfolding renamed key
  key-renamed [] = sym q.none
  key-renamed (x ∷ xs) = refl

  length-renamed : (r : Record) → length (renamed f r) ≡ length r
  unfolding renamed
  length-renamed [] = refl
  length-renamed (x ∷ xs) = refl

  ids-renamed : (rs : List Record) → ids (map (renamed f) rs) ≡ map f (ids rs)
  ids-renamed [] = refl
  ids-renamed (r ∷ rs) = rw (key-renamed r, ids-renamed rs)

  fields_renamed : (k : Kind) (r : Record) → ok_fields k (renamed f r) ≡ ok_fields k r
  unfolding renamed
  fields_renamed k [] = refl
  fields_renamed Kind.Box (x ∷ xs) = rw (q.ok x)
  fields_renamed Kind.Port (x ∷ xs) = rw (q.ok x)
  fields_renamed Kind.Net (x ∷ xs) = rw (q.ok x)
  fields_renamed Kind.End (x ∷ xs) = rw (q.ok x)

  pub fields-number : (k : Kind) (r : Record) → fields_number k (renamed f r) ≡ fields_number k r
  unfolding fields_number_in
  fields-number k r = rw (length-renamed r, fields_renamed k r)

  record-renamed : (k : Kind) (r : Record) → ok_record k (renamed f r) ≡ ok_record k r
  unfolding ok_record
  record-renamed k r = rw (fields-number k r)

  -- ---- lists
  listed-renamed : (r : Record) (rs : List Record) → is_in (key (renamed f r)) (ids (map (renamed f) rs)) ≡ is_in (key r) (ids rs)
  listed-renamed r rs = rw (key-renamed r, ids-renamed rs) (same-is_in (key r) (ids rs))

  own-renamed : (k : Kind) (rs : List Record) → scan (own k) (map (renamed f) rs) ≡ scan (own k) rs
  unfolding scan own
  own-renamed k [] = refl
  own-renamed k (r ∷ rs) = rw (record-renamed k r, listed-renamed r rs, own-renamed k rs)

  belongs-renamed : (k : Kind) (os rs : List Record) → scan (belongs k (map (renamed f) os)) (map (renamed f) rs) ≡ scan (belongs k os) rs
  unfolding scan belongs
  belongs-renamed k os [] = refl
  belongs-renamed k os (r ∷ rs) = rw (record-renamed k r, listed-renamed r os, belongs-renamed k os rs)

  owners-renamed : (k : Kind) (rs : List Record) → ok_owners k (map (renamed f) rs) ≡ ok_owners k rs
  unfolding ok_owners
  owners-renamed k rs = rw (length-map rs (renamed f), own-renamed k rs)

  members-renamed : (k : Kind) (os rs : List Record) → ok_members k (map (renamed f) os) (map (renamed f) rs) ≡ ok_members k os rs
  unfolding ok_members
  members-renamed k os rs = rw (length-map rs (renamed f), belongs-renamed k os rs)

  lists-renamed : (l : Lists) → ok_lists (renamed_lists f l) ≡ ok_lists l
  unfolding ok_lists renamed_lists
  lists-renamed l =
      rw (owners-renamed Kind.Box l.boxes, owners-renamed Kind.Net l.nets, members-renamed Kind.Port l.boxes l.ports, members-renamed Kind.End l.nets l.ends)

  copies-renamed : (ls : List Lists) → scan ok_copy (map (renamed_lists f) ls) ≡ scan ok_copy ls
  unfolding scan ok_copy
  copies-renamed [] = refl
  copies-renamed (l ∷ ls) = rw (lists-renamed l, copies-renamed ls)

  pub valid-renamed : (b : Book) → valid (renamed_book f b) ≡ valid b
  unfolding valid renamed_book
  valid-renamed b = rw (length-map b.pile (renamed_lists f), copies-renamed (b.lists ∷ b.pile))

  -- ---- numbers
  room-renamed : (k : Kind) (rs : List Record) → room_number k (map (renamed f) rs) ≡ room_number k rs
  unfolding room_number
  room-renamed k rs = rw (length-map rs (renamed f))

  in-renamed : (id : ℕ) (rs : List Record) → is_in (f id) (ids (map (renamed f) rs)) ≡ is_in id (ids rs)
  in-renamed id rs = rw (ids-renamed rs) (same-is_in id (ids rs))

  pub add-number : (k : Kind) (l : Lists) (id : ℕ) → add_number k (renamed_lists f l) (f id) ≡ add_number k l id
  unfolding renamed_lists new_number known_number
  add-number Kind.Box l id = rw (in-renamed id l.boxes, room-renamed Kind.Box l.boxes)
  add-number Kind.Port l id = rw (in-renamed id l.boxes, room-renamed Kind.Port l.ports)
  add-number Kind.Net l id = rw (in-renamed id l.nets, room-renamed Kind.Net l.nets)
  add-number Kind.End l id = rw (in-renamed id l.nets, room-renamed Kind.End l.ends)

  pub name-number : (k : Kind) (name : ℕ) → name_number k (renamed_name f k name) ≡ name_number k name
  name-number Kind.Box id = rw (q.ok id)
  name-number Kind.Port at = refl
  name-number Kind.Net id = rw (q.ok id)
  name-number Kind.End at = refl

  pub retire-number : (k : Kind) (l : Lists) (name : ℕ) → retire_number k (renamed_lists f l) (renamed_name f k name) ≡ retire_number k l name
  unfolding renamed_lists id_number place_number
  retire-number Kind.Box l id = rw (in-renamed id l.boxes, in-renamed id l.ports)
  retire-number Kind.Port l at = rw (length-map l.ports (renamed f))
  retire-number Kind.Net l id = rw (in-renamed id l.nets, in-renamed id l.ends)
  retire-number Kind.End l at = rw (length-map l.ends (renamed f))

  spot-renamed : (k : Kind) (l : Lists) (name : ℕ) → spot k (renamed_lists f l) (renamed_name f k name) ≡ spot k l name
  unfolding renamed_lists
  spot-renamed Kind.Box l id = rw (ids-renamed l.boxes) (same_place id (ids l.boxes))
  spot-renamed Kind.Port l at = refl
  spot-renamed Kind.Net l id = rw (ids-renamed l.nets) (same_place id (ids l.nets))
  spot-renamed Kind.End l at = refl

  -- ---- changes
  pub with-renamed : (k : Kind) (r : Record) (l : Lists) → with_record k (renamed f r) (renamed_lists f l) ≡ renamed_lists f (with_record k r l)
  unfolding with_record renamed_lists
  with-renamed Kind.Box r l = rw (map-append (renamed f) l.boxes (r ∷ []))
  with-renamed Kind.Port r l = rw (map-append (renamed f) l.ports (r ∷ []))
  with-renamed Kind.Net r l = rw (map-append (renamed f) l.nets (r ∷ []))
  with-renamed Kind.End r l = rw (map-append (renamed f) l.ends (r ∷ []))

  cut-renamed : (k : Kind) (i : ℕ) (l : Lists) → with_list k (without i (list k (renamed_lists f l))) (renamed_lists f l) ≡ renamed_lists f (with_list k (without i (list k l)) l)
  unfolding renamed_lists
  cut-renamed Kind.Box i l = rw (map-without (renamed f) i l.boxes)
  cut-renamed Kind.Port i l = rw (map-without (renamed f) i l.ports)
  cut-renamed Kind.Net i l = rw (map-without (renamed f) i l.nets)
  cut-renamed Kind.End i l = rw (map-without (renamed f) i l.ends)

  pub without-renamed : (k : Kind) (name : ℕ) (l : Lists) → without_record k (renamed_name f k name) (renamed_lists f l) ≡ renamed_lists f (without_record k name l)
  unfolding without_record
  without-renamed k name l = rw (spot-renamed k l name) (cut-renamed k (spot k l name) l)

  pub change-renamed : (b : Book) (l : Lists) → change (renamed_book f b) (renamed_lists f l) ≡ renamed_book f (change b l)
  unfolding change renamed_book
  change-renamed b l = rw (take-map (renamed_lists f) COPIES (b.lists ∷ b.pile))

  pub back-renamed : (b : Book) (ls : List Lists) → back (renamed_book f b) (map (renamed_lists f) ls) ≡ renamed_book f (back b ls)
  unfolding back renamed_book
  back-renamed b [] = refl
  back-renamed b (l ∷ ls) = refl
