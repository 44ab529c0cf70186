-- Laws of rows in words, and the steps of the loops that search them.
--     length-rows, rows_split, rows-prefix, rows_snoc, rows-without, rows_take    rows by their words
--     length-records, record-split, ids-from                                      the rows of an area and their keys
--     found_here, find_on, found_none                                             the turns of the search for a place
--     seek-on, seek-end                                                           the turns of the search without an exit
--     gather-on, gather-end                                                       the turns of the copy of the keys
--     pass, fail, done                                                            the turns of a scan
use mathlib.Core.Path.{◌≡◌, refl, sym, ap, ◌∙◌}
use mathlib.Core.List.{List, [], ◌∷◌, ◌++◌, append_assoc, append-nil, map}
use mathlib.Core.Bool.{Bool, true, false, cond, ◌&&◌, ◌||◌}
use Rattle.std.proofs.Common.{Some, None}
use Prim.Native.Nat.{ℕ, zero, suc, ◌+◌, ◌-◌, ◌*◌, ◌≤◌, ◌<◌, min}
use native.Mathlib.Nat.{suc-mul, zero-mul, add-mul, add_comm, zero-add, mul-le-mul_right}
use native.Mathlib.Numerals.{add-one}
use native.Mathlib.Omega.{arith}
use lib.ListN.{length, get_or, take, drop, set, length-drop, length-map, drop_of_length-le}
use lib.Seq.{drop-drop, get_or-take, get_or-drop, take-take, take-add, take_at, drop_at, take-suc-set, drop-cons, length-take-le}
use lib.Dec.{eqb, ltb}
use borrow.Author.Tests.{eq-eqb, ne_eqb, lt-ltb, le-ltb, ltb-true, ltb-false}
use Rattle.std.specs.Option.{unwrap_or}
use Rattle.std.proofs.lemmas.List.{drop-take}
pub use Rattle.std.specs.List.{take-map, drop-map}
use Rattle.rows.specs.Rows.{rows, records, key, ids, keys, place, is_in, scan, without, inserted, found}

pub take-drop : {A : Type 0} (m n : ℕ) (l : List A) → take n (drop m l) ≡ drop m (take (m + n) l)
take-drop m n l = sym (drop-take m n l)

-- ---- products
-- row i lies within n rows
pub row_in : (w i n : ℕ) → i < n → i * w + w ≤ n * w
row_in w i n h = rw (← suc-mul i w) (mul-le-mul_right w h)

pub one_more : (n w : ℕ) → (n + 1) * w ≡ n * w + w
one_more n w = rw add-one (suc-mul n w)

pub the_rest : (n i w : ℕ) → i < n → (n - (i + 1)) * w + (i + 1) * w ≡ n * w
the_rest n i w h =
    let e : n - (i + 1) + (i + 1) ≡ n = omega arith in
    sym (add-mul (n - (i + 1)) (i + 1) w) ∙ ap (λ (k : ℕ). k * w) e

pub suc-row : (n w : ℕ) → suc n * w ≡ w + n * w
suc-row n w = suc-mul n w ∙ add_comm (n * w) w

-- ---- rows
pub length-rows : (w n : ℕ) (ws : List ℕ) → length (rows w n ws) ≡ n
unfolding rows
length-rows w zero ws = refl
length-rows w (suc n) ws = ap suc (length-rows w n (drop w ws))

pub rows_split : (w n i : ℕ) (ws : List ℕ) → i < n → drop i (rows w n ws) ≡ take w (drop (i * w) ws) ∷ drop (suc i) (rows w n ws)
unfolding rows
rows_split w zero i ws h = absurd (omega arith)
rows_split w (suc n) zero ws h = rw (zero-mul w)
rows_split w (suc n) (suc i) ws h =
    rows_split w n i (drop w ws) (omega arith)
    ∙ ap (λ (t : List ℕ). take w t ∷ drop (suc i) (rows w n (drop w ws)))
    (drop-drop (i * w) w ws ∙ ap (λ (k : ℕ). drop k ws) (add_comm w (i * w) ∙ sym (suc-mul i w)))

-- rows go by their words alone
pub rows-prefix : (w n : ℕ) (xs ys : List ℕ) → take (n * w) xs ≡ take (n * w) ys → rows w n xs ≡ rows w n ys
unfolding rows
rows-prefix w zero xs ys e = refl
rows-prefix w (suc n) xs ys e =
    let e' : take (w + n * w) xs ≡ take (w + n * w) ys = rw (suc-row n w) at e in
    let h : take w xs ≡ take w ys =
    sym (take-take w (w + n * w) xs (omega arith)) ∙ ap (take w) e' ∙ take-take w (w + n * w) ys (omega arith) in
    let t : take (n * w) (drop w xs) ≡ take (n * w) (drop w ys) =
    take-drop w (n * w) xs ∙ ap (drop w) e' ∙ sym (take-drop w (n * w) ys) in
    ap (λ (x : List ℕ). x ∷ rows w n (drop w xs)) h ∙ ap (λ (r : List (List ℕ)). take w ys ∷ r) (rows-prefix w n (drop w xs) (drop w ys) t)

pub rows_snoc : (w n : ℕ) (ws : List ℕ) → rows w (suc n) ws ≡ rows w n ws ++ (take w (drop (n * w) ws) ∷ [])
unfolding rows
rows_snoc w zero ws = rw (zero-mul w)
rows_snoc w (suc n) ws =
    ap (λ (r : List (List ℕ)). take w ws ∷ r)
    (rows_snoc w n (drop w ws)
    ∙ ap (λ (t : List ℕ). rows w n (drop w ws) ++ (take w t ∷ [])) (drop-drop (n * w) w ws ∙ ap (λ (k : ℕ). drop k ws) (sym (suc-row n w))))

pub rows-without : (w n i : ℕ) (ws : List ℕ) → i < n → n * w ≤ length ws
    → rows w (n - 1) (take (i * w) ws ++ drop ((i + 1) * w) ws) ≡ without i (rows w n ws)
unfolding rows without
rows-without w zero i ws h l = absurd (omega arith)
rows-without w (suc n) zero ws h l =
    let e : suc n - 1 ≡ n = omega arith in
    let e₁ : (0 + 1) * w ≡ w = one_more 0 w ∙ ap (λ (k : ℕ). k + w) (zero-mul w) ∙ zero-add w in
    rw (e, zero-mul w, e₁)
rows-without w (suc zero) (suc i) ws h l = absurd (omega arith)
rows-without w (suc (suc n)) (suc i) ws h l =
    let e : suc (suc n) - 1 ≡ suc n = omega arith in
    let e' : suc n - 1 ≡ n = omega arith in
    let w₀ : w ≤ length ws = omega (arith, suc-row (suc n) w) in
    let lt : length (take w ws) ≡ w = length-take-le w ws w₀ in
    let X : List ℕ = drop ((suc i + 1) * w) ws in
    let ek : (suc i + 1) * w ≡ w + (i + 1) * w = omega (arith, one_more (suc i) w, suc-row i w, one_more i w) in
    let eX : X ≡ drop ((i + 1) * w) (drop w ws) =
    ap (λ (k : ℕ). drop k ws) ek ∙ sym (drop-drop ((i + 1) * w) w ws) in
    let s : take (suc i * w) ws ++ X ≡ take w ws ++ (take (i * w) (drop w ws) ++ X) =
    rw (suc-row i w, take-add w (i * w) ws) (append_assoc (take w ws) (take (i * w) (drop w ws)) X) in
    rw (e, s, take_at (take w ws) (take (i * w) (drop w ws) ++ X) w lt, drop_at (take w ws) (take (i * w) (drop w ws) ++ X) w lt, eX)
    (ap (λ (r : List (List ℕ)). take w ws ∷ r)
    (ap (λ (k : ℕ). rows w k (take (i * w) (drop w ws) ++ drop ((i + 1) * w) (drop w ws))) (sym e')
    ∙ rows-without w (suc n) i (drop w ws) (omega arith) (rw length-drop (omega (arith, suc-row (suc n) w)))))

pub rows-inserted : (w n i : ℕ) (row ws : List ℕ) → i ≤ n → n * w ≤ length ws → length row ≡ w
    → rows w (suc n) (take (i * w) ws ++ (row ++ drop (i * w) ws)) ≡ inserted i row (rows w n ws)
unfolding rows inserted
rows-inserted w n zero row ws h l hw = rw (zero-mul w, take_at row ws w hw, drop_at row ws w hw)
rows-inserted w zero (suc i) row ws h l hw = absurd (omega arith)
rows-inserted w (suc n) (suc i) row ws h l hw =
    let w₀ : w ≤ length ws = omega (arith, suc-row n w) in
    let lt : length (take w ws) ≡ w = length-take-le w ws w₀ in
    let X : List ℕ = row ++ drop (suc i * w) ws in
    let eX : X ≡ row ++ drop (i * w) (drop w ws) =
    ap (λ (t : List ℕ). row ++ t) (ap (λ (k : ℕ). drop k ws) (suc-row i w) ∙ sym (drop-drop (i * w) w ws)) in
    let s : take (suc i * w) ws ++ X ≡ take w ws ++ (take (i * w) (drop w ws) ++ X) =
    ap (λ (t : List ℕ). t ++ X) (ap (λ (k : ℕ). take k ws) (suc-row i w) ∙ take-add w (i * w) ws) ∙ append_assoc (take w ws) (take (i * w) (drop w ws)) X in
    rw (s, take_at (take w ws) (take (i * w) (drop w ws) ++ X) w lt, drop_at (take w ws) (take (i * w) (drop w ws) ++ X) w lt, eX)
    (ap (λ (r : List (List ℕ)). take w ws ∷ r)
    (rows-inserted w n i row (drop w ws) (omega arith) (rw length-drop (omega (arith, suc-row n w))) hw))

pub rows_take : (w k n : ℕ) (ws : List ℕ) → take k (rows w n ws) ≡ rows w (min k n) ws
unfolding rows
rows_take w zero n ws =
    let e : min 0 n ≡ 0 = omega arith in
    rw e
rows_take w (suc k) zero ws =
    let e : min (suc k) 0 ≡ 0 = omega arith in
    rw e
rows_take w (suc k) (suc n) ws =
    let e : min (suc k) (suc n) ≡ suc (min k n) = omega arith in
    rw e (ap (λ (r : List (List ℕ)). take w ws ∷ r) (rows_take w k n (drop w ws)))

-- ---- the rows of an area
module _ (w n : ℕ) (area : List ℕ) where
  pub length-records : length (records w n area) ≡ n
  unfolding records
  length-records = length-rows w n (drop 1 area)

  pub length-keys : length (keys w n area) ≡ n
  unfolding keys
  length-keys = rw length-map length-records

  pub ids-are : ids (records w n area) ≡ keys w n area
  unfolding keys
  ids-are = refl

  pub ids-from : (j : ℕ) → ids (drop j (records w n area)) ≡ drop j (keys w n area)
  unfolding keys
  ids-from j = sym (drop-map key j (records w n area))

  pub record-split : (i : ℕ) → i < n → drop i (records w n area) ≡ take w (drop (1 + i * w) area) ∷ drop (i + 1) (records w n area)
  unfolding records
  record-split i h = rw (add-one, rows_split w n i (drop 1 area) h, drop-drop)

  pub key-at : (i : ℕ) → 0 < w → key (take w (drop (1 + i * w) area)) ≡ get_or area (1 + i * w) 0
  unfolding key
  key-at i h =
      get_or-take w (drop (1 + i * w) area) 0 0 h ∙ get_or-drop (1 + i * w) area 0 0 ∙ ap (λ (k : ℕ). get_or area k 0) (omega arith)

  pub keys-split : (i : ℕ) → i < n → 0 < w → drop i (keys w n area) ≡ get_or area (1 + i * w) 0 ∷ drop (i + 1) (keys w n area)
  keys-split i h h₀ =
      sym (ids-from i) ∙ ap (map key) (record-split i h)
      ∙ ap (λ (x : ℕ). x ∷ map key (drop (i + 1) (records w n area))) (key-at i h₀)
      ∙ ap (λ (t : List ℕ). get_or area (1 + i * w) 0 ∷ t) (ids-from (i + 1))

-- ---- a search
pub first : (k x : ℕ) (xs : List ℕ) → x ≡ k → place k (x ∷ xs) ≡ 0
unfolding place
first k x xs e = rw (eq-eqb x k e)

pub passed : (k x : ℕ) (xs : List ℕ) → (x ≡ k → ⊥) → place k (x ∷ xs) ≡ suc (place k xs)
unfolding place
passed k x xs e = rw (ne_eqb x k e)

pub nowhere : (k : ℕ) (xs : List ℕ) → length xs ≡ 0 → place k xs ≡ 0
unfolding place
nowhere k [] e = refl
nowhere k (x ∷ xs) e = absurd (omega arith)

pub place_le : (k : ℕ) (xs : List ℕ) → place k xs ≤ length xs
unfolding place
place_le k [] = omega arith
place_le k (x ∷ xs) = go (eqb x k) (place_le k xs)
  where
    go : (b : Bool) → place k xs ≤ length xs → cond b 0 (suc (place k xs)) ≤ suc (length xs)
    go true h = omega arith
    go false h = omega arith

-- found, or the length
pub found_or : (k : ℕ) (xs : List ℕ) (n : ℕ) → n ≡ length xs → unwrap_or (found k xs) n ≡ place k xs
unfolding found is_in
found_or k xs n e = go (ltb (place k xs) (length xs)) refl
  where
    go : (b : Bool) → ltb (place k xs) (length xs) ≡ b → unwrap_or (cond b (Some (place k xs)) None) n ≡ place k xs
    go true t = refl
    go false t = omega (arith, place_le k xs, ltb-false (place k xs) (length xs) t)

-- the turns of the search
module _ (w n : ℕ) (area : List ℕ) (k i : ℕ) (so_far : i + place k (drop i (keys w n area)) ≡ place k (keys w n area)) where
  pub found_here : 0 < w → i < n → get_or area (1 + i * w) 0 ≡ k → Some i ≡ found k (keys w n area)
  unfolding found is_in
  found_here h₀ h e =
      let z : place k (drop i (keys w n area)) ≡ 0 = ap (place k) (keys-split w n area i h h₀) ∙ first k _ _ e in
      let l : length (keys w n area) ≡ n = length-keys w n area in
      let q : place k (keys w n area) ≡ i = omega arith in
      rw (q, l, lt-ltb i n h)

  pub find_on : 0 < w → i < n → (get_or area (1 + i * w) 0 ≡ k → ⊥) → i + 1 + place k (drop (i + 1) (keys w n area)) ≡ place k (keys w n area)
  find_on h₀ h e =
      let z : place k (drop i (keys w n area)) ≡ suc (place k (drop (i + 1) (keys w n area))) =
      ap (place k) (keys-split w n area i h h₀) ∙ passed k _ _ e in
      omega arith

  pub found_none : n ≤ i → None ≡ found k (keys w n area)
  unfolding found is_in
  found_none h =
      let l : length (keys w n area) ≡ n = length-keys w n area in
      let d : length (drop i (keys w n area)) ≡ 0 = rw (length-drop, l) (omega arith) in
      let z : place k (drop i (keys w n area)) ≡ 0 = nowhere k _ d in
      rw (l, le-ltb (place k (keys w n area)) n (omega arith))

-- ---- a search without an exit: r says whether k stands before place i of L
ltb-suc : (p n : ℕ) → ltb (suc p) (suc n) ≡ ltb p n
ltb-suc p n = go (ltb p n) refl
  where
    go : (b : Bool) → ltb p n ≡ b → ltb (suc p) (suc n) ≡ b
    go true e = lt-ltb (suc p) (suc n) (omega (arith, ltb-true p n e))
    go false e = le-ltb (suc p) (suc n) (omega (arith, ltb-false p n e))

in-more : (k x : ℕ) (xs : List ℕ) → is_in k (x ∷ xs) ≡ eqb x k || is_in k xs
unfolding is_in place
in-more k x xs = go (eqb x k) refl
  where
    go : (b : Bool) → eqb x k ≡ b → ltb (cond (eqb x k) 0 (suc (place k xs))) (suc (length xs)) ≡ b || ltb (place k xs) (length xs)
    go true e = rw e (lt-ltb 0 (suc (length xs)) (omega arith))
    go false e = rw e (ltb-suc (place k xs) (length xs))

or_assoc : (a b c : Bool) → a || (b || c) ≡ (a || b) || c
or_assoc true b c = refl
or_assoc false b c = refl

or-none : (a : Bool) → a || false ≡ a
or-none true = refl
or-none false = refl

pub words-split : (L : List ℕ) (i : ℕ) → i < length L → drop i L ≡ get_or L i 0 ∷ drop (i + 1) L
words-split L i h = rw add-one (drop-cons L i 0 h)

module _ (k : ℕ) (L : List ℕ) (i : ℕ) (r : Bool) (so_far : is_in k L ≡ r || is_in k (drop i L)) where
  pub seek-on : (x : ℕ) → drop i L ≡ x ∷ drop (i + 1) L → is_in k L ≡ (r || eqb x k) || is_in k (drop (i + 1) L)
  seek-on x split =
      so_far ∙ ap (λ (t : List ℕ). r || is_in k t) split ∙ ap (λ (b : Bool). r || b) (in-more k x (drop (i + 1) L))
      ∙ or_assoc r (eqb x k) (is_in k (drop (i + 1) L))

  pub seek-end : length L ≤ i → r ≡ is_in k L
  unfolding is_in place
  seek-end h = sym (so_far ∙ ap (λ (t : List ℕ). r || is_in k t) (drop_of_length-le L h) ∙ or-none r)

-- ---- the keys of n rows written side by side: the first i stand already
module _ (w n : ℕ) (area words : List ℕ) (i : ℕ) (so_far : take i words ++ drop i (keys w n area) ≡ keys w n area) where
  pub gather-on : 0 < w → i < n → i < length words
      → take (i + 1) (set words i (get_or area (1 + i * w) 0)) ++ drop (i + 1) (keys w n area) ≡ keys w n area
  gather-on h₀ h l =
      let x : ℕ = get_or area (1 + i * w) 0 in
      let e : i + 1 ≡ suc i = omega arith in
      ap (λ (t : List ℕ). t ++ drop (i + 1) (keys w n area)) (ap (λ (j : ℕ). take j (set words i x)) e ∙ take-suc-set words i x l)
      ∙ append_assoc (take i words) (x ∷ []) (drop (i + 1) (keys w n area))
      ∙ ap (λ (t : List ℕ). take i words ++ t) (sym (keys-split w n area i h h₀))
      ∙ so_far

  pub gather-end : i ≡ n → take n words ≡ keys w n area
  gather-end e =
      let l : length (keys w n area) ≤ i = rw (length-keys w n area) (omega arith) in
      ap (λ (j : ℕ). take j words) (sym e) ∙ sym (append-nil (take i words))
      ∙ ap (λ (t : List ℕ). take i words ++ t) (sym (drop_of_length-le (keys w n area) l)) ∙ so_far

-- ---- a scan of a list L from its front: what it says of the whole it says of what is left
module _ {A : Type 0} (t : A → List A → Bool) (L : List A) (x : A) (i : ℕ) (split : drop i L ≡ x ∷ drop (i + 1) L)
    (so_far : scan t L ≡ scan t (drop i L)) where
  here : scan t L ≡ t x (drop (i + 1) L) && scan t (drop (i + 1) L)
  unfolding scan
  here = so_far ∙ ap (scan t) split

  pub pass : t x (drop (i + 1) L) ≡ true → scan t L ≡ scan t (drop (i + 1) L)
  pass e = here ∙ ap (λ (b : Bool). b && scan t (drop (i + 1) L)) e

  pub fail : t x (drop (i + 1) L) ≡ false → false ≡ scan t L
  fail e = sym (here ∙ ap (λ (b : Bool). b && scan t (drop (i + 1) L)) e)

pub done : {A : Type 0} (t : A → List A → Bool) (L : List A) (i : ℕ) → length L ≤ i → scan t L ≡ scan t (drop i L) → true ≡ scan t L
unfolding scan
done t L i h e = sym (e ∙ ap (scan t) (drop_of_length-le L h))

pub ruleset searches = (found_here, find_on, found_none, seek-on, seek-end, gather-on, gather-end, words-split, keys-split, length-keys)
