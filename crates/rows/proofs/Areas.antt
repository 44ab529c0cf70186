-- Areas: what stands in one after a row is put last or taken out.
--     is_out, is_in                                     what the two functions leave, as the definitions say it
--     put_count, put-records, cut-count, cut-records       the count and the records then
--     length-put, length_cut
use mathlib.Core.Path.{◌≡◌, sym, ap, ◌∙◌}
use mathlib.Core.List.{List, [], ◌∷◌, ◌++◌, append_assoc}
use Prim.Native.Nat.{ℕ, ◌+◌, ◌-◌, ◌*◌, ◌≤◌, ◌<◌}
use native.Mathlib.Nat.{add-mul}
use native.Mathlib.Numerals.{add-one}
use native.Mathlib.Omega.{arith}
use lib.ListN.{length, get_or, take, drop, set, length-take, length-drop, length-set, take-append-drop}
use lib.Seq
use Rattle.std.specs.List.{copy_within}
use Rattle.rows.specs.Rows.{pasted, rows, records, put_last, taken_out, put_in, without, inserted}
use Rattle.rows.proofs.Rows.{one_more, the_rest, take-drop, rows_snoc, rows-prefix, rows-without, rows-inserted}

-- the two functions move rows by `copy_within`
pub is_out : (w i : ℕ) (area l : List ℕ) → i < get_or area 0 0
    → l ≡ copy_within area (1 + (i + 1) * w) (1 + get_or area 0 0 * w) (1 + i * w) → set l 0 (get_or area 0 0 - 1) ≡ taken_out w i area
unfolding taken_out pasted
is_out w i area l h e =
    let n : ℕ = get_or area 0 0 in
    let m : 1 + n * w - (1 + (i + 1) * w) ≡ (n - (i + 1)) * w = omega (arith, the_rest n i w h) in
    rw (e, m)

pub is_in : (row area l m : List ℕ) (i : ℕ) → i ≤ get_or area 0 0
    → m ≡ copy_within area (1 + i * length row) (1 + get_or area 0 0 * length row) (1 + i * length row + length row)
    → l ≡ pasted m (1 + i * length row) row (length row) → set l 0 (get_or area 0 0 + 1) ≡ put_in (length row) i row area
unfolding put_in pasted
is_in row area l m i h em e =
    let n : ℕ = get_or area 0 0 in
    let w : ℕ = length row in
    let k : n - i + i ≡ n = omega arith in
    let q : 1 + n * w - (1 + i * w) ≡ (n - i) * w = omega (arith, add-mul (n - i) i w, ap (λ (t : ℕ). t * w) k) in
    rw (e, em, q)

back_one : (k : ℕ) → 0 < k → k - 1 + 1 ≡ k
back_one k h = omega arith

-- what a paste leaves
module _ (d : List ℕ) (at : ℕ) (s : List ℕ) (n : ℕ) (hd : at ≤ length d) (hs : n ≤ length s) where
  pub before : take at (pasted d at s n) ≡ take at d
  unfolding pasted
  before = rw (append_assoc (take at d) (take n s) (drop (at + n) d)) (Seq.take_at (take at d) (take n s ++ drop (at + n) d) at (Seq.length-take-le at d hd))

  pub from : drop at (pasted d at s n) ≡ take n s ++ drop (at + n) d
  unfolding pasted
  from = rw (append_assoc (take at d) (take n s) (drop (at + n) d)) (Seq.drop_at (take at d) (take n s ++ drop (at + n) d) at (Seq.length-take-le at d hd))

  pub through : take (at + n) (pasted d at s n) ≡ take at d ++ take n s
  unfolding pasted
  through = Seq.take-paste d at s n hd hs

pub past : (d : List ℕ) (at : ℕ) (s : List ℕ) (n : ℕ) → at + n ≤ length d → n ≤ length s → drop (at + n) (pasted d at s n) ≡ drop (at + n) d
unfolding pasted
past d at s n hd hs = Seq.drop-paste d at s n (omega arith) hs

-- an area with a row put last
module _ (w : ℕ) (row area : List ℕ) (hw : length row ≡ w) (fits : 1 + (get_or area 0 0 + 1) * w ≤ length area) where
  n : ℕ
  n = get_or area 0 0

  at_most : 1 + n * w + w ≤ length area
  unfolding n
  at_most = omega (arith, one_more (get_or area 0 0) w)

  pub put_count : get_or (put_last w row area) 0 0 ≡ get_or area 0 0 + 1
  unfolding put_last pasted n
  put_count =
      Seq.get_or-set_same (pasted area (1 + get_or area 0 0 * w) row w) 0 (get_or area 0 0 + 1) 0
      (rw (Seq.length-paste area (1 + get_or area 0 0 * w) row w at_most (omega arith)) (omega (arith, at_most)))

  pub put-records : records w (get_or area 0 0 + 1) (put_last w row area) ≡ records w (get_or area 0 0) area ++ (row ∷ [])
  unfolding put_last n records
  put-records =
      let k : ℕ = get_or area 0 0 in
      let P : List ℕ = pasted area (1 + k * w) row w in
      let h₁ : 1 + k * w ≤ length area = omega (arith, at_most) in
      let h₂ : w ≤ length row = omega arith in
      let e₁ : take (k * w) (drop 1 P) ≡ take (k * w) (drop 1 area) =
      take-drop 1 (k * w) P ∙ ap (drop 1) (before area (1 + k * w) row w h₁ h₂) ∙ sym (take-drop 1 (k * w) area) in
      let e₂ : take w (drop (k * w) (drop 1 P)) ≡ row =
      ap (take w) (Seq.drop-drop (k * w) 1 P ∙ from area (1 + k * w) row w h₁ h₂)
      ∙ Seq.take_at (take w row) (drop (1 + k * w + w) area) w (Seq.length-take-le w row h₂) ∙ Seq.take_all w row (omega arith) in
      rw (Seq.drop-set-lt 1 P 0 (k + 1) (omega arith), add-one k, rows_snoc w k (drop 1 P), rows-prefix w k (drop 1 P) (drop 1 area) e₁, e₂)

-- an area with row i out
module _ (w i : ℕ) (area : List ℕ) (hi : i < get_or area 0 0) (fits : 1 + get_or area 0 0 * w ≤ length area) where
  pub cut-count : get_or (taken_out w i area) 0 0 ≡ get_or area 0 0 - 1
  unfolding taken_out pasted
  cut-count =
      let k : ℕ = get_or area 0 0 in
      let S : List ℕ = drop (1 + (i + 1) * w) area in
      let hS : (k - (i + 1)) * w ≤ length S = rw length-drop (omega (arith, the_rest k i w hi)) in
      Seq.get_or-set_same (pasted area (1 + i * w) S ((k - (i + 1)) * w)) 0 (k - 1) 0
      (rw (Seq.length-paste area (1 + i * w) S ((k - (i + 1)) * w) (omega (arith, the_rest k i w hi, one_more i w)) hS) (omega arith))

  pub cut-records : records w (get_or area 0 0 - 1) (taken_out w i area) ≡ without i (records w (get_or area 0 0) area)
  unfolding taken_out records
  cut-records =
      let k : ℕ = get_or area 0 0 in
      let m : ℕ = (k - (i + 1)) * w in
      let S : List ℕ = drop (1 + (i + 1) * w) area in
      let P : List ℕ = pasted area (1 + i * w) S m in
      let W : List ℕ = drop 1 area in
      let hS : m ≤ length S = rw length-drop (omega (arith, the_rest k i w hi)) in
      let ha : 1 + i * w ≤ length area = omega (arith, the_rest k i w hi, one_more i w) in
      let em : (k - 1) * w ≡ i * w + m = omega (arith, the_rest k i w hi, one_more i w, one_more (k - 1) w, ap (λ (t : ℕ). t * w) (back_one k (omega arith))) in
      let lW : length (take (i * w) W) ≡ i * w = Seq.length-take-le (i * w) W (rw length-drop (omega arith)) in
      let eS : S ≡ drop ((i + 1) * w) W = sym (Seq.drop-drop ((i + 1) * w) 1 area) in
      let ea : 1 + (i * w + m) ≡ 1 + i * w + m = omega arith in
      let e₁ : take ((k - 1) * w) (drop 1 P) ≡ take ((k - 1) * w) (take (i * w) W ++ drop ((i + 1) * w) W) =
      rw em
      (take-drop 1 (i * w + m) P
      ∙ ap (drop 1) (ap (λ (t : ℕ). take t P) ea ∙ through area (1 + i * w) S m ha hS)
      ∙ Seq.drop-append-le 1 (take (1 + i * w) area) (take m S) (rw length-take (omega arith))
      ∙ ap (λ (t : List ℕ). t ++ take m S) (sym (take-drop 1 (i * w) area))
      ∙ ap (λ (t : List ℕ). take (i * w) W ++ take m t) eS
      ∙ sym (Seq.take-append-add (take (i * w) W) (drop ((i + 1) * w) W) m)
      ∙ ap (λ (t : ℕ). take (t + m) (take (i * w) W ++ drop ((i + 1) * w) W)) lW) in
      rw (Seq.drop-set-lt 1 P 0 (k - 1) (omega arith))
      (rows-prefix w (k - 1) (drop 1 P) (take (i * w) W ++ drop ((i + 1) * w) W) e₁ ∙ rows-without w k i W hi (rw length-drop (omega arith)))

-- an area with a row put in at i
module _ (w i : ℕ) (row area : List ℕ) (hi : i ≤ get_or area 0 0) (hw : length row ≡ w) (fits : 1 + (get_or area 0 0 + 1) * w ≤ length area) where
  abbrev k : ℕ
  k = get_or area 0 0

  abbrev at : ℕ
  at = 1 + i * w

  abbrev m : ℕ
  m = (k - i) * w

  whole : m + i * w ≡ k * w
  whole = let e : k - i + i ≡ k = omega arith in sym (add-mul (k - i) i w) ∙ ap (λ (t : ℕ). t * w) e

  room : at + w + m ≤ length area
  room = omega (arith, whole, one_more k w)

  abbrev moved : List ℕ
  moved = pasted area (at + w) (drop at area) m

  long : m ≤ length (drop at area)
  long = rw length-drop (omega (arith, room))

  length_moved : length moved ≡ length area
  unfolding pasted
  length_moved = Seq.length-paste area (at + w) (drop at area) m room long

  length-in : length (pasted moved at row w) ≡ length area
  unfolding pasted
  length-in = Seq.length-paste moved at row w (omega (arith, room, length_moved)) (omega arith) ∙ length_moved

  pub length-put_in : length (put_in w i row area) ≡ length area
  unfolding put_in
  length-put_in = length-set (pasted moved at row w) 0 (k + 1) ∙ length-in

  pub in_count : get_or (put_in w i row area) 0 0 ≡ get_or area 0 0 + 1
  unfolding put_in
  in_count = Seq.get_or-set_same (pasted moved at row w) 0 (k + 1) 0 (rw length-in (omega (arith, room)))

  abbrev W : List ℕ
  W = drop 1 area

  abbrev Y : List ℕ
  Y = take m (drop at area) ++ drop (at + w + m) area

  behind : drop at (pasted moved at row w) ≡ row ++ Y
  behind =
      from moved at row w (omega (arith, room, length_moved)) (omega arith)
      ∙ ap (λ (t : List ℕ). take w row ++ t) (from area (at + w) (drop at area) m (omega (arith, room)) long)
      ∙ ap (λ (t : List ℕ). t ++ Y) (Seq.take_all w row (omega arith))

  first : take at (pasted moved at row w) ≡ take at area
  first =
      before moved at row w (omega (arith, room, length_moved)) (omega arith)
      ∙ sym (Seq.take-take at (at + w) moved (omega arith))
      ∙ ap (take at) (before area (at + w) (drop at area) m (omega (arith, room)) long)
      ∙ Seq.take-take at (at + w) area (omega arith)

  words : drop 1 (pasted moved at row w) ≡ take (i * w) W ++ (row ++ Y)
  words =
      ap (drop 1) (sym (take-append-drop at (pasted moved at row w)) ∙ ap (λ (t : List ℕ). t ++ drop at (pasted moved at row w)) first ∙ ap (λ (t : List ℕ). take at area ++ t) behind)
      ∙ Seq.drop-append-le 1 (take at area) (row ++ Y) (rw length-take (omega (arith, room)))
      ∙ ap (λ (t : List ℕ). t ++ (row ++ Y)) (sym (take-drop 1 (i * w) area))

  same-words : take ((k + 1) * w) (take (i * w) W ++ (row ++ Y)) ≡ take ((k + 1) * w) (take (i * w) W ++ (row ++ drop (i * w) W))
  same-words =
      let lW : length (take (i * w) W) ≡ i * w = Seq.length-take-le (i * w) W (rw length-drop (omega (arith, room))) in
      let e : (k + 1) * w ≡ length (take (i * w) W) + (length row + m) = omega (arith, whole, one_more k w, lW, hw) in
      let lY : length (take m (drop at area)) ≡ m = Seq.length-take-le m (drop at area) long in
      let t : take m Y ≡ take m (drop (i * w) W) =
      Seq.take_at (take m (drop at area)) (drop (at + w + m) area) m lY ∙ ap (take m) (sym (Seq.drop-drop (i * w) 1 area)) in
      rw e
      (Seq.take-append-add (take (i * w) W) (row ++ Y) (length row + m)
      ∙ ap (λ (s : List ℕ). take (i * w) W ++ s) (Seq.take-append-add row Y m ∙ ap (λ (s : List ℕ). row ++ s) t ∙ sym (Seq.take-append-add row (drop (i * w) W) m))
      ∙ sym (Seq.take-append-add (take (i * w) W) (row ++ drop (i * w) W) (length row + m)))

  pub in-records : records w (get_or area 0 0 + 1) (put_in w i row area) ≡ inserted i row (records w (get_or area 0 0) area)
  unfolding put_in records
  in-records =
      rw (Seq.drop-set-lt 1 (pasted moved at row w) 0 (k + 1) (omega arith))
      (ap (rows w (k + 1)) words
      ∙ rows-prefix w (k + 1) (take (i * w) W ++ (row ++ Y)) (take (i * w) W ++ (row ++ drop (i * w) W)) same-words
      ∙ ap (λ (n : ℕ). rows w n (take (i * w) W ++ (row ++ drop (i * w) W))) (add-one k)
      ∙ rows-inserted w k i row W hi (rw length-drop (omega (arith, one_more k w))) hw)

-- lengths
pub length-put : (w : ℕ) (row area : List ℕ) → length row ≡ w → 1 + (get_or area 0 0 + 1) * w ≤ length area → length (put_last w row area) ≡ length area
unfolding put_last pasted
length-put w row area hw fits =
    length-set (pasted area (1 + get_or area 0 0 * w) row w) 0 (get_or area 0 0 + 1)
    ∙ Seq.length-paste area (1 + get_or area 0 0 * w) row w (omega (arith, one_more (get_or area 0 0) w)) (omega arith)

pub length_cut : (w i : ℕ) (area : List ℕ) → i < get_or area 0 0 → 1 + get_or area 0 0 * w ≤ length area → length (taken_out w i area) ≡ length area
unfolding taken_out pasted
length_cut w i area hi fits =
    let k : ℕ = get_or area 0 0 in
    let S : List ℕ = drop (1 + (i + 1) * w) area in
    let hS : (k - (i + 1)) * w ≤ length S = rw length-drop (omega (arith, the_rest k i w hi)) in
    length-set (pasted area (1 + i * w) S ((k - (i + 1)) * w)) 0 (k - 1)
    ∙ Seq.length-paste area (1 + i * w) S ((k - (i + 1)) * w) (omega (arith, the_rest k i w hi, one_more i w)) hS
