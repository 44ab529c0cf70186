-- A block's areas: where they lie, and what a call on one of them has to know.
use mathlib.Core.Path.{◌≡◌, refl, sym, ap, ◌∙◌}
use mathlib.Core.List.{List, [], ◌∷◌, ◌++◌}
use Prim.Native.Nat.{ℕ, ◌+◌, ◌-◌, ◌*◌, ◌≤◌, ◌<◌}
use native.Mathlib.Nat.{mul-le-mul_right}
use native.Mathlib.Omega.{arith}
use lib.ListN.{length, get_or, take, drop, length-drop, length-map}
use lib.Seq.{get_or-take, get_or-drop, length-take-le, take-take, drop-drop}
use Rattle.std.proofs.lemmas.Bool.Decides.{nat_tests}
use Rattle.std.specs.Option.{unwrap_or}
use Rattle.rows.specs.Rows.{part, found, with_part, key, keys, ids, count, is_in, place, records}
use Rattle.rows.proofs.Rows.{found_or, length-keys, length-records, ids-are, record-split, key-at, row_in, take-drop}
use Rattle.block.specs.Sizes.{BLOCK}
use Rattle.book.specs.Book.{Record, width, most, room_number, new_number, known_number, add_number, take_number, id_number, place_number, retire_number, leave_number, spot}
use Rattle.block.specs.Block.{start, size, area, list_of, lists_of, Counted}
use Rattle.book.specs.declared.Kind.{Kind}
use Rattle.book.proofs.Fields.{take_0, leave-0}

-- ---- kinds
pub size_is : (k : Kind) → size k ≡ 1 + most k * width k
size_is Kind.Box = refl
size_is Kind.Port = refl
size_is Kind.Net = refl
size_is Kind.End = refl

pub wide_enough : (k : Kind) → 0 < width k
wide_enough Kind.Box = omega arith
wide_enough Kind.Port = omega arith
wide_enough Kind.Net = omega arith
wide_enough Kind.End = omega arith

pub within : (k : Kind) → start k + size k ≤ BLOCK
within Kind.Box = omega arith
within Kind.Port = omega arith
within Kind.Net = omega arith
within Kind.End = omega arith

pub few-most : (k : Kind) → most k ≤ 256
few-most Kind.Box = omega arith
few-most Kind.Port = omega arith
few-most Kind.Net = omega arith
few-most Kind.End = omega arith

pub rows_in : (k : Kind) (n : ℕ) → n ≤ most k → 1 + n * width k ≤ size k
rows_in k n h = omega (arith, size_is k, mul-le-mul_right (width k) h)

-- ---- an area as a part
module _ (k : Kind) (blk : List ℕ) (long : length blk ≡ BLOCK) where
  pub area-long : length (area k blk) ≡ size k
  unfolding area part
  area-long = length-take-le (size k) (drop (start k) blk) (rw length-drop (omega (arith, within k)))

  pub count_is : count (area k blk) ≡ get_or blk (start k) 0
  unfolding area part
  count_is = get_or-take (size k) (drop (start k) blk) 0 0 (omega (arith, size_is k)) ∙ get_or-drop (start k) blk 0 0 ∙ ap (λ (t : ℕ). get_or blk t 0) (omega arith)

-- the part of a block that is lent as its area, and the block when the part is left as ys
module _ (k : Kind) (blk : List ℕ) where
  whole : start k + size k - start k ≡ size k
  whole = omega arith

  pub lent : take (start k + size k - start k) (drop (start k) blk) ≡ area k blk
  unfolding area part
  lent = rw whole

  pub left : (ys : List ℕ) → take (start k) blk ++ (ys ++ drop (start k + size k - start k) (drop (start k) blk)) ≡ with_part (start k) (size k) ys blk
  unfolding with_part
  left ys = rw whole

-- ---- numbers
pub length-list : (k : Kind) (blk : List ℕ) → length (list_of k blk) ≡ count (area k blk)
unfolding list_of
length-list k blk = length-records (width k) (count (area k blk)) (area k blk)

pub room_0 : (k : Kind) (blk : List ℕ) → room_number k (list_of k blk) ≡ 0 → count (area k blk) < most k
unfolding room_number
room_0 k blk e = grind (arith, nat_tests, length-list k blk)

pub place_is : (k : Kind) (blk : List ℕ) (id : ℕ) → unwrap_or (found id (keys (width k) (count (area k blk)) (area k blk))) (count (area k blk)) ≡ place id (ids (list_of k blk))
unfolding list_of
place_is k blk id =
    let n : ℕ = count (area k blk) in
    found_or id (keys (width k) n (area k blk)) n (sym (length-keys (width k) n (area k blk))) ∙ ap (place id) (sym (ids-are (width k) n (area k blk)))

-- ---- row i of an area
module _ (k : Kind) (blk : List ℕ) (cnt : Counted blk) (i : ℕ) (hi : i < count (area k blk)) where
  pub row_here : get_or (list_of k blk) i [] ≡ take (width k) (drop (1 + i * width k) (area k blk))
  unfolding list_of
  row_here = first (records (width k) (count (area k blk)) (area k blk)) i _ _ (record-split (width k) (count (area k blk)) (area k blk) i hi)
    where
      first : (rs : List Record) (i : ℕ) (r : Record) (qs : List Record) → drop i rs ≡ r ∷ qs → get_or rs i [] ≡ r
      first rs i r qs e = sym (ap (λ (t : List Record). get_or t 0 []) (sym e) ∙ get_or-drop i rs 0 [] ∙ ap (λ (j : ℕ). get_or rs j []) (omega arith))

  pub row_inside : start k + (1 + i * width k) + width k ≤ BLOCK
  row_inside = omega (arith, row_in (width k) i (count (area k blk)) hi, rows_in k (count (area k blk)) (cnt.few k), within k)

  pub row_words : get_or (list_of k blk) i [] ≡ take (width k) (drop (start k + (1 + i * width k)) blk)
  unfolding area part
  row_words =
      let w : ℕ = width k in
      let j : ℕ = 1 + i * w in
      let h : j + w ≤ size k = omega (arith, row_in w i (count (area k blk)) hi, rows_in k (count (area k blk)) (cnt.few k)) in
      row_here
      ∙ take-drop j w (take (size k) (drop (start k) blk))
      ∙ ap (drop j) (take-take (j + w) (size k) (drop (start k) blk) h)
      ∙ sym (take-drop j w (drop (start k) blk))
      ∙ ap (take w) (drop-drop j (start k) blk)

  pub key_in : 1 + i * width k < length (area k blk)
  key_in = omega (arith, area-long k blk cnt.long, row_in (width k) i (count (area k blk)) hi, rows_in k (count (area k blk)) (cnt.few k), wide_enough k)

  pub key_here : get_or (area k blk) (1 + i * width k) 0 ≡ key (get_or (list_of k blk) i [])
  key_here = sym (ap key row_here ∙ key-at (width k) 0 (area k blk) i (wide_enough k))

-- an addition that gets 0 has room
pub room_of : (k : Kind) (blk : List ℕ) (id n : ℕ) → n ≡ add_number k (lists_of blk) id → n ≡ 0 → room_number k (list_of k blk) ≡ 0
unfolding lists_of new_number known_number
room_of Kind.Box blk id n e h = grind arith
room_of Kind.Port blk id n e h = grind arith
room_of Kind.Net blk id n e h = grind arith
room_of Kind.End blk id n e h = grind arith

pub take-room : (k : Kind) (blk : List ℕ) (r : Record) (n : ℕ) → n ≡ take_number k r (lists_of blk) → n ≡ 0 → room_number k (list_of k blk) ≡ 0
take-room k blk r n e z = room_of k blk (key r) _ refl (take_0 k r (lists_of blk) (sym e ∙ z))

-- a retirement that gets 0 names a record
id-in : (k : Kind) (blk : List ℕ) (rs : List Record) (id : ℕ) → id_number (list_of k blk) rs id ≡ 0 → place id (ids (list_of k blk)) < count (area k blk)
unfolding id_number is_in
id-in k blk rs id e = grind (arith, nat_tests, length-map (list_of k blk) key, length-list k blk)

place_in : (k : Kind) (blk : List ℕ) (at : ℕ) → place_number (list_of k blk) at ≡ 0 → at < count (area k blk)
unfolding place_number
place_in k blk at e = grind (arith, nat_tests, length-list k blk)

pub spot_in : (k : Kind) (blk : List ℕ) (name n : ℕ) → n ≡ retire_number k (lists_of blk) name → n ≡ 0 → spot k (lists_of blk) name < count (area k blk)
unfolding lists_of
spot_in Kind.Box blk name n e h = id-in Kind.Box blk (list_of Kind.Port blk) name (sym e ∙ h)
spot_in Kind.Port blk name n e h = place_in Kind.Port blk name (sym e ∙ h)
spot_in Kind.Net blk name n e h = id-in Kind.Net blk (list_of Kind.End blk) name (sym e ∙ h)
spot_in Kind.End blk name n e h = place_in Kind.End blk name (sym e ∙ h)

pub leave-spot : (k : Kind) (blk : List ℕ) (name n : ℕ) → n ≡ leave_number k name (lists_of blk) → n ≡ 0 → spot k (lists_of blk) name < count (area k blk)
leave-spot k blk name n e z = spot_in k blk name _ refl (leave-0 k name (lists_of blk) (sym e ∙ z))

pub ruleset areas = (wide_enough, within, few-most, rows_in, area-long, length-list, ids-are)

pub ruleset parts = (areas, lent, left, room_0)
