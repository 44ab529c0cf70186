-- The explicit anchors of a page's records: each port whose box is there and each unported end whose net is there has one.
use mathlib.Core.Path.{◌≡◌, refl, sym, ◌∙◌}
use mathlib.Core.Bool.{Bool, true, false, not, ◌||◌}
use mathlib.Core.List.{List, [], ◌∷◌}
use Prim.Native.Nat.{ℕ, zero, suc, ◌+◌, ◌*◌, ◌<◌, ◌≤◌}
use native.Mathlib.Decide.{ℕ_discrete}
use native.Mathlib.Omega.{arith}
use borrow.Author.Tests.{eq-eqb}
use lib.Dec.{eqb}
use lib.ListN.{length, get_or, length-append, get_or-append}
use lib.Seq.{get_or_at}
use Rattle.anchors.specs.Records.{BOX, ROW, NET, Records}
use Rattle.anchors.specs.Explicit.{Columns, empty, push, takes, ignored, with_row, with_key, with_keys, port_anchors, explicit}
use Rattle.page_graph.proofs.Explicits.{Kept, Even, push-even, row_keeps, key-keeps, keys-keep}
use Rattle.page_search.specs.Exists.{Keyed, Owned, Holds, port, unported}

-- an anchor is at (x, y)
pub record Stands (c : Columns) (x y : ℕ) : Type 0 where
  pub anchor : ℕ
  pub listed : anchor < length c.xs
  pub x_is : get_or c.xs anchor 0 ≡ x
  pub y_is : get_or c.ys anchor 0 ≡ y

-- as many x as y, and an anchor is at (x, y)
record There (x y : ℕ) (c : Columns) : Type 0 where
  pub even : Even c
  pub stands : Stands c x y

push-keeps : (x y : ℕ) (c : Columns) (u v d b : ℕ) → There x y c → There x y (push c u v d b)
unfolding push
push-keeps x y c u v d b t =
    let s = t.stands in
    record {
      even = push-even c u v d b t.even;
      stands = record {
        anchor = s.anchor;
        listed = simp length-append (omega (arith, s.listed));
        x_is = get_or-append c.xs (u ∷ []) 0 s.anchor s.listed ∙ s.x_is;
        y_is = get_or-append c.ys (v ∷ []) 0 s.anchor (omega (arith, s.listed, t.even)) ∙ s.y_is;
      };
    }

push-stands : (c : Columns) (x y d b : ℕ) → Even c → Stands (push c x y d b) x y
unfolding push
push-stands c x y d b e =
    record { anchor = length c.xs; listed = simp length-append (omega arith); x_is = get_or_at c.xs x [] 0 (length c.xs) refl; y_is = get_or_at c.ys y [] 0 (length c.xs) (sym e) }

there-kept : (x y : ℕ) (rows : List ℕ) (n : ℕ) → Kept (There x y) rows n
there-kept x y rows n = record { on = λ c k d b h t. push-keeps x y c _ _ d b t }

even-kept : (rows : List ℕ) (n : ℕ) → Kept Even rows n
even-kept rows n = record { on = λ c k d b h e. push-even c _ _ d b e }

module _ (ends : Bool) (rows : List ℕ) (n : ℕ) where
  -- the place of the row k
  abbrev At : Columns → ℕ → Type 0
  At c k = Stands c (get_or rows (k * ROW + 1) 0) (get_or rows (k * ROW + 2) 0)

  row-stands : (key b k : ℕ) (c : Columns) → Even c → takes ends rows key k ≡ true → At (with_row ends rows key b k c) k
  unfolding with_row
  row-stands key b k c e t = rw t (push-stands c _ _ _ b e)

  key-even : (key b m : ℕ) (c : Columns) → m ≤ n → Even c → Even (with_key ends rows key b m c)
  key-even key b m c h e = key-keeps Even ends rows n (even-kept rows n) key b m c h e

  key-stands : (key b m k : ℕ) (c : Columns) → m ≤ n → Even c → k < m → takes ends rows key k ≡ true → At (with_key ends rows key b m c) k
  unfolding with_key
  key-stands key b zero k c l e h t = absurd (omega arith)
  key-stands key b (suc m) k c l e h t = go (ℕ_discrete k m) (λ z. key-stands key b m k c (omega arith) e z t)
    where
      g : Even (with_key ends rows key b m c)
      g = key-even key b m c (omega arith) e

      go : Dec (k ≡ m) → (k < m → At (with_key ends rows key b m c) k) → At (with_row ends rows key b m (with_key ends rows key b m c)) k
      go (yes q) ih = rw q (row-stands key b m (with_key ends rows key b m c) g (rw q at t))
      go (no q) ih = (row_keeps (There _ _) ends rows n (there-kept _ _ rows n) key b m (with_key ends rows key b m c) (omega arith) (record { even = g; stands = ih (omega arith) })).stands

  module _ (keys : List ℕ) (width : ℕ) where
    keys-even : (l : ℕ) (c : Columns) → Even c → Even (with_keys ends rows n keys width l c)
    keys-even l c e = keys-keep Even ends rows n (even-kept rows n) keys width l c e

    keys-stands : (l i k : ℕ) (c : Columns) → Even c → i < l → k < n → takes ends rows (get_or keys (i * width) 0) k ≡ true → At (with_keys ends rows n keys width l c) k
    unfolding with_keys
    keys-stands zero i k c e h lt t = absurd (omega arith)
    keys-stands (suc l) i k c e h lt t = go (ℕ_discrete i l) (λ z. keys-stands l i k c e z lt t)
      where
        v : Columns
        v = with_keys ends rows n keys width l c

        g : Even v
        g = keys-even l c e

        go : Dec (i ≡ l) → (i < l → At v k) → At (with_key ends rows (get_or keys (l * width) 0) (ignored ends l) n v) k
        go (yes q) ih = key-stands (get_or keys (l * width) 0) (ignored ends l) n k v (omega arith) g lt (rw q at t)
        go (no q) ih = (key-keeps (There _ _) ends rows n (there-kept _ _ rows n) (get_or keys (l * width) 0) (ignored ends l) n v (omega arith) (record { even = g; stands = ih (omega arith) })).stands

    -- the row k, of a key that is there
    keyed-stands : (l k : ℕ) (c : Columns) → Even c → k < n → (not ends || eqb (get_or rows (k * ROW + 3) 0) 0) ≡ true → Keyed keys width l (get_or rows (k * ROW) 0) → At (with_keys ends rows n keys width l c) k
    unfolding takes
    keyed-stands l k c e h t q =
        keys-stands l q.row k c e q.listed h (rw (eq-eqb (get_or rows (k * ROW) 0) (get_or keys (q.row * width) 0) (sym q.is)) t)

module _ (r : Records) where
  ports-even : Even (port_anchors r)
  unfolding port_anchors
  ports-even = keys-even false r.ports r.port_count r.boxes BOX r.box_count empty refl

  port-stands : (k : ℕ) → k < r.port_count → Keyed r.boxes BOX r.box_count (get_or r.ports (k * ROW) 0) → Stands (port_anchors r) (get_or r.ports (k * ROW + 1) 0) (get_or r.ports (k * ROW + 2) 0)
  unfolding port_anchors
  port-stands k h q = keyed-stands false r.ports r.port_count r.boxes BOX r.box_count k empty refl h refl q

  port-kept : (x y : ℕ) → Stands (port_anchors r) x y → Stands (explicit r) x y
  unfolding explicit
  port-kept x y s = (keys-keep (There x y) true r.ends r.end_count (there-kept x y r.ends r.end_count) r.nets NET r.net_count (port_anchors r) (record { even = ports-even; stands = s })).stands

  end-stands : (k : ℕ) → k < r.end_count → get_or r.ends (k * ROW + 3) 0 ≡ 0 → Keyed r.nets NET r.net_count (get_or r.ends (k * ROW) 0) → Stands (explicit r) (get_or r.ends (k * ROW + 1) 0) (get_or r.ends (k * ROW + 2) 0)
  unfolding explicit
  end-stands k h z q = keyed-stands true r.ends r.end_count r.nets NET r.net_count k (port_anchors r) ports-even h (eq-eqb _ _ z) q

  stands_at : (c : Columns) (u v x y : ℕ) → u ≡ x → v ≡ y → Stands c u v → Stands c x y
  stands_at c u v x y e f s = record { anchor = s.anchor; listed = s.listed; x_is = s.x_is ∙ e; y_is = s.y_is ∙ f }

  pub explicit-stands : (x y : ℕ) → Owned r → Holds r x y → Stands (explicit r) x y
  explicit-stands x y o (port k a) = port-kept x y (stands_at (port_anchors r) _ _ x y a.x_is a.y_is (port-stands k a.listed (o.box_there k a.listed)))
  explicit-stands x y o (unported k a z) = stands_at (explicit r) _ _ x y a.x_is a.y_is (end-stands k a.listed z (o.net_there k a.listed))
