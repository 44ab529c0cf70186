-- What holds of no anchors and is kept by each port and each end holds of all explicit anchors. So they have as many x as y.
use mathlib.Core.Path.{◌≡◌, refl}
use mathlib.Core.Bool.{Bool, true, false, cond}
use mathlib.Core.List.{List}
use Prim.Native.Nat.{ℕ, zero, suc, ◌+◌, ◌*◌, ◌<◌, ◌≤◌}
use native.Mathlib.Omega.{arith}
use lib.ListN.{length, get_or, length-append}
use Rattle.anchors.specs.Records.{BOX, ROW, NET, Records}
use Rattle.anchors.specs.Explicit.{Columns, empty, push, takes, ways, ignored, with_row, with_key, with_keys, port_anchors, explicit}

module _ (I : Columns → Type 0) where
  -- kept by the place of each of n rows
  pub record Kept (rows : List ℕ) (n : ℕ) : Type 0 where
    pub on : (c : Columns) (k d b : ℕ) → k < n → I c → I (push c (get_or rows (k * ROW + 1) 0) (get_or rows (k * ROW + 2) 0) d b)

  module _ (ends : Bool) (rows : List ℕ) (n : ℕ) (s : Kept rows n) where
    pub row_keeps : (key box k : ℕ) (c : Columns) → k < n → I c → I (with_row ends rows key box k c)
    unfolding with_row
    row_keeps key box k c h i = by (takes ends rows key k)
      where
        by : (t : Bool) → I (cond t (push c (get_or rows (k * ROW + 1) 0) (get_or rows (k * ROW + 2) 0) (ways ends (get_or rows (k * ROW + 3) 0)) box) c)
        by true = s.on c k _ box h i
        by false = i

    pub key-keeps : (key box k : ℕ) (c : Columns) → k ≤ n → I c → I (with_key ends rows key box k c)
    unfolding with_key
    key-keeps key box zero c h i = i
    key-keeps key box (suc k) c h i = row_keeps key box k _ (omega arith) (key-keeps key box k c (omega arith) i)

    pub keys-keep : (keys : List ℕ) (width k : ℕ) (c : Columns) → I c → I (with_keys ends rows n keys width k c)
    unfolding with_keys
    keys-keep keys width zero c i = i
    keys-keep keys width (suc k) c i = key-keeps _ (ignored ends k) n _ (omega arith) (keys-keep keys width k c i)

  pub explicit-keeps : (r : Records) → Kept r.ports r.port_count → Kept r.ends r.end_count → I empty → I (explicit r)
  unfolding explicit port_anchors
  explicit-keeps r p e i =
      keys-keep true r.ends r.end_count e r.nets NET r.net_count _ (keys-keep false r.ports r.port_count p r.boxes BOX r.box_count empty i)

abbrev pub Even : Columns → Type 0
Even c = length c.xs ≡ length c.ys

pub push-even : (c : Columns) (x y d b : ℕ) → Even c → Even (push c x y d b)
unfolding push
push-even c x y d b e = simp length-append (omega arith)

pub explicit-even : (r : Records) → length (explicit r).xs ≡ length (explicit r).ys
explicit-even r =
    explicit-keeps Even r (record { on = λ c k d b h e. push-even c _ _ d b e }) (record { on = λ c k d b h e. push-even c _ _ d b e }) refl
