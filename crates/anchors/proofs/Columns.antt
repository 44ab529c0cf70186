-- Anchors laid row by row into a list.
--     pushed                  an anchor after the first n
--     row-at                  a row among the rows
--     key-room, keys-room     the room that a row or a key asks is there, if it is there for all
use mathlib.Core.Path.{◌≡◌, refl, sym, ap, ◌∙◌}
use mathlib.Core.Bool.{Bool, true, false, cond}
use mathlib.Core.List.{List, [], ◌∷◌, ◌++◌}
use Prim.Native.Nat.{ℕ, zero, suc, ◌+◌, ◌-◌, ◌*◌, ◌<◌, ◌≤◌}
use native.Mathlib.Omega.{arith}
use native.Mathlib.Numerals.{add-one}
use lib.ListN.{length, get_or, set, take, drop, length-append, length-map}
use lib.Seq.{length-take-le, take-suc-set}
use Rattle.std.proofs.lemmas.List.{get_or-take, get_or-drop, map-append}
use Rattle.std.specs.Simd.{first_chunks}
use Rattle.fixed.specs.declared.Anchor.{Anchor}
use Rattle.anchors.specs.Explicit.{Columns, push, takes, ways, ignored, with_row, with_key, with_keys, port_anchors, explicit, columns}
use Rattle.anchors.specs.Records.{ROW, NET, Records}

pub long : (n : ℕ) (l : List Anchor) → n ≤ length l → length (columns (take n l)).xs ≡ n
long n l h = length-map (take n l) _ ∙ length-take-le n l h

pub pushed : (n : ℕ) (l : List Anchor) (a : Anchor) → n < length l → columns (take (n + 1) (set l n a)) ≡ push (columns (take n l)) a.x a.y a.directions a.ignored
unfolding push
pushed n l a h =
    let e : take (n + 1) (set l n a) ≡ take n l ++ (a ∷ []) = rw add-one (take-suc-set l n a h) in
    let m = λ (f : Anchor → ℕ). map-append f (take n l) (a ∷ []) in
    rw (e, m (λ b. b.x), m (λ b. b.y), m (λ b. b.directions), m (λ b. b.ignored))

-- ---- a row

-- the word j of the row k
pub row-at : (w m k j : ℕ) (ws : List ℕ) → k < m → j < w → get_or (get_or (first_chunks w m ws) k []) j 0 ≡ get_or ws (k * w + j) 0
row-at w zero k j ws h l = absurd (omega arith)
row-at w (suc m) zero j ws h l =
    let e : 0 * w + j ≡ j = omega arith in
    rw e (get_or-take w ws j 0 l)
row-at w (suc m) (suc k) j ws h l =
    let e : suc k * w + j ≡ w + (k * w + j) = omega arith in
    rw e (row-at w m k j (drop w ws) (omega arith) l ∙ get_or-drop w ws (k * w + j) 0)

module _ (ends : Bool) (rows : List ℕ) (key : ℕ) where
  module _ (b k : ℕ) (c : Columns) where
    pub row-longer : takes ends rows key k ≡ true → length (with_row ends rows key b k c).xs ≡ length c.xs + 1
    unfolding with_row push
    row-longer e = rw e (length-append c.xs (get_or rows (k * ROW + 1) 0 ∷ []))

    row-grows : length c.xs ≤ length (with_row ends rows key b k c).xs
    unfolding with_row push
    row-grows = by (takes ends rows key k)
      where
        by : (t : Bool) → length c.xs ≤ length (cond t (push c (get_or rows (k * ROW + 1) 0) (get_or rows (k * ROW + 2) 0) (ways ends (get_or rows (k * ROW + 3) 0)) b) c).xs
        by true = simp length-append (omega arith)
        by false = omega arith

  -- ---- the rows of a key

  module _ (b : ℕ) (c : Columns) where
    pub key_more : (k : ℕ) → with_key ends rows key b (k + 1) c ≡ with_row ends rows key b k (with_key ends rows key b k c)
    unfolding with_key
    key_more k = rw (add-one k)

    key-grow : (k m : ℕ) → length (with_key ends rows key b k c).xs ≤ length (with_key ends rows key b (m + k) c).xs
    unfolding with_key
    key-grow k zero = let e : 0 + k ≡ k = omega arith in rw e (omega arith)
    key-grow k (suc m) =
        let e : suc m + k ≡ suc (m + k) = omega arith in
        rw e (omega (arith, key-grow k m, row-grows b (m + k) (with_key ends rows key b (m + k) c)))

    pub key-grows : (k m : ℕ) → k ≤ m → length (with_key ends rows key b k c).xs ≤ length (with_key ends rows key b m c).xs
    key-grows k m h = let e : m - k + k ≡ m = omega arith in rw e at (key-grow k (m - k))

    -- the room that the row k asks
    pub key-room : (k m room : ℕ) → k < m → length (with_key ends rows key b m c).xs ≤ room → length (with_row ends rows key b k (with_key ends rows key b k c)).xs ≤ room
    key-room k m room h l = rw (← key_more k) (omega (arith, key-grows (k + 1) m (omega arith)))

key-adds : (ends : Bool) (rows : List ℕ) (key b : ℕ) (v : Columns) (n : ℕ) → length v.xs ≤ length (with_key ends rows key b n v).xs
unfolding with_key
key-adds ends rows key b v n = key-grows ends rows key b v 0 n (omega arith)

-- ---- the keys in turn

module _ (ends : Bool) (rows : List ℕ) (n : ℕ) (keys : List ℕ) (width : ℕ) (c : Columns) where
  pub keys-more : (i : ℕ) → with_keys ends rows n keys width (i + 1) c ≡ with_key ends rows (get_or keys (i * width) 0) (ignored ends i) n (with_keys ends rows n keys width i c)
  unfolding with_keys
  keys-more i = rw (add-one i)

  keys-grow : (i m : ℕ) → length (with_keys ends rows n keys width i c).xs ≤ length (with_keys ends rows n keys width (m + i) c).xs
  unfolding with_keys
  keys-grow i zero = let e : 0 + i ≡ i = omega arith in rw e (omega arith)
  keys-grow i (suc m) =
      let e : suc m + i ≡ suc (m + i) = omega arith in
      rw e (omega (arith, keys-grow i m, key-adds ends rows (get_or keys ((m + i) * width) 0) (ignored ends (m + i)) (with_keys ends rows n keys width (m + i) c) n))

  pub keys-grows : (i m : ℕ) → i ≤ m → length (with_keys ends rows n keys width i c).xs ≤ length (with_keys ends rows n keys width m c).xs
  keys-grows i m h = let e : m - i + i ≡ m = omega arith in rw e at (keys-grow i (m - i))

  pub keys-room : (i m room : ℕ) → i < m → length (with_keys ends rows n keys width m c).xs ≤ room → length (with_key ends rows (get_or keys (i * width) 0) (ignored ends i) n (with_keys ends rows n keys width i c)).xs ≤ room
  keys-room i m room h l = rw (← keys-more i) (omega (arith, keys-grows (i + 1) m (omega arith)))

-- ---- the two loops

module _ (ends : Bool) (rows : List ℕ) (key b : ℕ) (c : Columns) where
  pub key-begin : c ≡ with_key ends rows key b 0 c
  unfolding with_key
  key-begin = refl

  module _ (m k : ℕ) (p : List (List ℕ)) (f : p ≡ first_chunks ROW m rows) (h : k < m) where
    abbrev pub row : List ℕ
    row = get_or p k []

    word : (j : ℕ) → j < ROW → get_or row j 0 ≡ get_or rows (k * ROW + j) 0
    word j l = rw f (row-at ROW m k j rows h l)

    takes-at : takes ends row key 0 ≡ takes ends rows key k
    unfolding takes
    takes-at =
        let e : k * ROW + 0 ≡ k * ROW = omega arith in
        rw (word 0 (omega arith), word 3 (omega arith), e)

    module _ (l : List Anchor) (n : ℕ) (e : columns (take n l) ≡ with_key ends rows key b k c) where
      -- a row that is taken makes the list one longer, and there is room for it
      pub key-inside : n ≤ length l → takes ends row key 0 ≡ true → length (with_key ends rows key b m c).xs ≤ length l → n < length l
      key-inside g t r =
          let q = key-room ends rows key b c k m (length l) h r in
          omega (arith, row-longer ends rows key b k (with_key ends rows key b k c) (sym takes-at ∙ t), ap (λ (v : Columns). length v.xs) e, long n l g)

      pub key-taken : (d : ℕ) → n < length l → takes ends row key 0 ≡ true → d ≡ ways ends (get_or row 3 0)
          → columns (take (n + 1) (set l n (record { x = get_or row 1 0; y = get_or row 2 0; directions = d; ignored = b }))) ≡ with_key ends rows key b (k + 1) c
      unfolding with_row
      key-taken d g t w =
          pushed n l _ g ∙ rw (key_more ends rows key b c k, ← e, sym takes-at ∙ t, w, word 1 (omega arith), word 2 (omega arith), word 3 (omega arith))

      pub key-left : takes ends row key 0 ≡ false → columns (take n l) ≡ with_key ends rows key b (k + 1) c
      unfolding with_row
      key-left t = rw (key_more ends rows key b c k, ← e, sym takes-at ∙ t)

module _ (ends : Bool) (rows : List ℕ) (n : ℕ) (keys : List ℕ) (width : ℕ) (c : Columns) where
  pub keys-begin : c ≡ with_keys ends rows n keys width 0 c
  unfolding with_keys
  keys-begin = refl

  module _ (m i : ℕ) (p : List (List ℕ)) (f : p ≡ first_chunks width m keys) (h : i < m) (w : 0 < width) (v : Columns) (e : v ≡ with_keys ends rows n keys width i c)
      (key : List ℕ) (q : key ≡ get_or p i []) (b : ℕ) (d : b ≡ ignored ends i) where
    key-is : get_or key 0 0 ≡ get_or keys (i * width) 0
    key-is =
        let z : i * width + 0 ≡ i * width = omega arith in
        rw (q, f, row-at width m i 0 keys h w, z)

    pub keys_on : (u : Columns) → u ≡ with_key ends rows (get_or key 0 0) b n v → u ≡ with_keys ends rows n keys width (i + 1) c
    keys_on u g = g ∙ rw (key-is, d, e) (sym (keys-more ends rows n keys width c i))

    pub keys-asks : (room : ℕ) → length (with_keys ends rows n keys width m c).xs ≤ room → length (with_key ends rows (get_or key 0 0) b n v).xs ≤ room
    keys-asks room l = rw (key-is, d, e) (keys-room ends rows n keys width c i m room h l)

-- ---- all explicit anchors

pub ports-room : (r : Records) (room : ℕ) → length (explicit r).xs ≤ room → length (port_anchors r).xs ≤ room
unfolding explicit with_keys
ports-room r room l =
    omega (arith, keys-grows true r.ends r.end_count r.nets NET (port_anchors r) 0 r.net_count (omega arith))
