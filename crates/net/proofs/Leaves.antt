-- What each small function has is what its definition says, and one turn of each loop.
use mathlib.Core.Path.{◌≡◌, refl}
use mathlib.Core.Bool.{Bool, true, false, ◌&&◌}
use mathlib.Core.List.{List, []}
use Prim.Native.Nat.{ℕ, ◌+◌, ◌*◌, ◌<◌, ◌≤◌}
use native.Mathlib.Numerals.{add-one}
use native.Mathlib.Omega.{arith}
use lib.IntN.{ℤ}
use borrow.Author.Tests.{eq-eqb, ne_eqb, lt-ltb, le-ltb}
use lib.Dec.{ltb}
use lib.ListN.{length, get_or, set, take, length-map, get_or-eq_default}
use Rattle.std.specs.Prelude.{map, Option, Some, None}
use Rattle.std.specs.Option.{is_some}
use Rattle.std.proofs.lemmas.List.{map-set}
use Rattle.wire.specs.declared.types.Place.{Place}
use Rattle.fixed.specs.Up.{BIAS, ups}
use Rattle.nodes.specs.Graph.{Graph, seek, find}
use Rattle.nodes.specs.Lent.{Below as Found}
use Rattle.zeros.specs.Zeros.{closed}
use Rattle.path_finding.specs.Line.{table}
use Rattle.path_finding.specs.Places.{node_at, known}
use Rattle.path_finding.proofs.Laws.{snoc, table-put, known_more}
use Rattle.wire.specs.Wires.{vertices}
use Rattle.net.specs.Points.{ROW, owns, column}
use Rattle.net.specs.Nets.{along_at, along, end_word, net, refused}

-- ---- the node at a place

-- its direction
module _ (G : Graph) (x y : ℕ) where
  pub along-in : (s : ℕ) (r : Bool) → Found (Some s) G.count (find G x y) → r ≡ along_at G.marks s → r ≡ along G x y
  unfolding along find
  along-in s r f q = rw (← f.0) q

  pub along-out : length G.marks ≤ G.count → Found None G.count (find G x y) → false ≡ along G x y
  unfolding along along_at find
  along-out long f = rw (get_or-eq_default G.marks 0 {n = seek G.xs G.ys G.count x y} (omega arith))

-- whether there is one
node-there : (o : Option ℕ) (n v : ℕ) → Found o n v → is_some o ≡ ltb v n
node-there None n v f = rw (le-ltb _ _ f)
node-there (Some s) n v f = rw (← f.0, lt-ltb _ _ f.1)

pub known-next : (G : Graph) (exs eys : List ℕ) (k x y : ℕ) (o : Option ℕ) (ok : Bool) → ok ≡ known G.xs G.ys G.count exs eys k → x ≡ get_or exs k 0 → y ≡ get_or eys k 0 → Found o G.count (find G x y)
    → (ok && is_some o) ≡ known G.xs G.ys G.count exs eys (k + 1)
unfolding find node_at
known-next G exs eys k x y o ok e ex ey f =
    rw (node-there o G.count (find G x y) f) (known_more G.xs G.ys G.count exs eys k (find G x y) ok e (rw (ex, ey)))

-- ---- endpoints

module _ (E : List ℕ) (id k : ℕ) (b : Bool) (q : b ≡ owns E id k) where
  pub column-on : (w m v : ℕ) (l : List ℕ) → take m l ≡ column w E id k → m < length l → b ≡ true → v ≡ get_or E (k * ROW + w) 0 → take (m + 1) (set l m v) ≡ column w E id (k + 1)
  unfolding column
  column-on w m v l e h t f = rw (snoc l m v h, add-one, ← q, t, ← e, ← f)

  pub column-off : (w : ℕ) (l : List ℕ) → l ≡ column w E id k → b ≡ false → l ≡ column w E id (k + 1)
  unfolding column
  column-off w l e t = rw (add-one, ← q, t) e

pub column-none : (w : ℕ) (E : List ℕ) (id : ℕ) → [] ≡ column w E id 0
unfolding column
column-none w E id = refl

pub column-end : (w : ℕ) (E : List ℕ) (id k n : ℕ) (l : List ℕ) → k ≡ n → l ≡ column w E id k → l ≡ column w E id n
column-end w E id k n l e h = rw (← e) h

-- a row of the net adds a place, any other row none: f is one of its coordinates
module _ (E : List ℕ) (id k w : ℕ) (f : Place → ℕ) (ps qs : List Place) (m n : ℕ) (e : take m (map f ps) ≡ column w E id k) where
  pub point-on : (p : Place) → get_or E (k * ROW) 0 ≡ id → qs ≡ set ps m p → n ≡ m + 1 → m < length ps → f p ≡ get_or E (k * ROW + w) 0 → take n (map f qs) ≡ column w E id (k + 1)
  unfolding owns
  point-on p o q r h v =
      rw (q, r, map-set f ps m p) (column-on E id k true (rw (o, eq-eqb id id refl)) w m (f p) (map f ps) e (rw length-map h) refl v)

  pub point-off : (get_or E (k * ROW) 0 ≡ id → ⊥) → qs ≡ ps → n ≡ m → take n (map f qs) ≡ column w E id (k + 1)
  unfolding owns
  point-off o q r = rw (q, r) (column-off E id k false (rw (ne_eqb _ _ o)) w _ e refl)

-- ---- the places of a net's ends

pub ends_on : (w : ℕ) (E : List ℕ) (l l' : List ℤ) (i v : ℕ) → take i (ups l) ≡ table (end_word w E) i → i < length l → ups l' ≡ set (ups l) i v → v ≡ get_or E (4 * i + w) 0
    → take (i + 1) (ups l') ≡ table (end_word w E) (i + 1)
unfolding end_word
ends_on w E l l' i v e h s q = table-put (end_word w E) l l' i v e h s q

-- ---- a refusal

pub refused-is : (number n j : ℕ) (x y k R x' y' k' R' : List ℕ) → x' ≡ closed BIAS n x → y' ≡ closed BIAS n y → k' ≡ closed 0 n k → R' ≡ closed 0 (3 * j) R
    → net number (vertices x' y' k' n) R' j ≡ refused number (vertices x y k n) R j
unfolding refused
refused-is number n j x y k R x' y' k' R' a b c d = rw (a, b, c, d)
