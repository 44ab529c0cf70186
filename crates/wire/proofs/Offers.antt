-- Every end of a net names a vertex of the page: kept by each wire that is added.
use mathlib.Core.Path.{◌≡◌, ◌∙◌}
use mathlib.Core.Bool.{Bool, true, false, cond}
use mathlib.Core.List.{List, [], ◌∷◌}
use Prim.Native.Nat.{ℕ, zero, suc, ◌+◌, ◌-◌, ◌*◌, ◌<◌, ◌≤◌}
use native.Mathlib.Decide.{ℕ_discrete}
use native.Mathlib.Nat.{le_refl}
use native.Mathlib.Omega.{arith}
use lib.ListN.{get_or, set}
use lib.Seq.{get_or-set_other}
use Rattle.vertex.specs.Kinds.{Junction}
use Rattle.wire.specs.Ends.{end_vertex, put_end}
use Rattle.wire.specs.Lines.{Line, straight}
use Rattle.wire.specs.Wires.{Ends, Wires, Held, push_vertex, push_end, push_dummies, push_start, push_start_ends, push_corner, push_node, push_nodes, push_vertices}

set-le : (l : List ℕ) (i a : ℕ) → get_or (set l i a) i 0 ≤ a
set-le [] i a = omega arith
set-le (x ∷ l) zero a = le_refl a
set-le (x ∷ l) (suc i) a = set-le l i a

put-here : (E : List ℕ) (m px py v k : ℕ) → end_vertex (put_end E m px py v k) m ≤ v
unfolding put_end
put-here E m px py v k =
    rw (get_or-set_other (set (set (set E (4 * m) px) (4 * m + 1) py) (4 * m + 2) v) (4 * m + 3) (4 * m + 2) k 0 (λ e. omega arith)) (set-le (set (set E (4 * m) px) (4 * m + 1) py) (4 * m + 2) v)

put-there : (E : List ℕ) (m px py v k i : ℕ) → (i ≡ m → ⊥) → end_vertex (put_end E m px py v k) i ≡ end_vertex E i
unfolding put_end
put-there E m px py v k i ne =
    get_or-set_other (set (set (set E (4 * m) px) (4 * m + 1) py) (4 * m + 2) v) (4 * m + 3) (4 * i + 2) k 0 (λ e. omega arith)
    ∙ get_or-set_other (set (set E (4 * m) px) (4 * m + 1) py) (4 * m + 2) (4 * i + 2) v 0 (λ e. ne (omega arith))
    ∙ get_or-set_other (set E (4 * m) px) (4 * m + 1) (4 * i + 2) py 0 (λ e. omega arith)
    ∙ get_or-set_other E (4 * m) (4 * i + 2) px 0 (λ e. omega arith)

pub held_more : {n n' : ℕ} {E : Ends} → n ≤ n' → Held n E → Held n' E
held_more h H = record { held = λ i k. below (H.held i k) h }
  where
    below : {a b d : ℕ} → a < b → b ≤ d → a < d
    below p q = omega arith

pub held-push : (n px py v kind : ℕ) (E : Ends) → v < n → Held n E → Held n (push_end px py v kind E)
unfolding push_end
held-push n px py v kind E h H = record { held = λ i k. by i k (ℕ_discrete i E.m) }
  where
    by : (i : ℕ) → i < E.m + 1 → Dec (i ≡ E.m) → end_vertex (put_end E.rows E.m px py v kind) i < n
    by i k (yes e) = rw e (omega (arith, put-here E.rows E.m px py v kind))
    by i k (no e) = rw (put-there E.rows E.m px py v kind i e) (H.held i (omega arith))

-- ---- wires

pub record Offered (W : Wires) : Type 0 where
  pub some : 0 < W.page.n
  pub held : Held W.page.n W.net

node-held : (L : Line) (J : Junction) (i : ℕ) (W : Wires) → Offered W → Offered (push_node L J i W)
unfolding push_node push_corner push_vertex
node-held L J i W O = by (straight L.kinds L.ways i) _ _ (omega (arith, O.some))
    (record { some = O.some; held = held-push _ _ _ _ _ _ (omega (arith, O.some)) O.held })
    (record { some = omega arith; held = held-push _ _ _ _ _ _ (omega arith) (held_more (omega arith) O.held) })
  where
    by : (b : Bool) (X Y : Wires) → 0 < W.page.n → Offered X → Offered Y → Offered (cond b X Y)
    by true X Y h x y = x
    by false X Y h x y = y

nodes-held : (L : Line) (J : Junction) (k : ℕ) (W : Wires) → Offered W → Offered (push_nodes L J k W)
unfolding push_nodes
nodes-held L J zero W O = O
nodes-held L J (suc k) W O = node-held L J (suc k) (push_nodes L J k W) (nodes-held L J k W O)

-- the ends of a wire along a line name vertices
pub line-held : (L : Line) (is_root : Bool) (J : Junction) (W : Wires) → Held W.page.n W.net → Offered (push_vertices L is_root J W)
unfolding push_vertices push_start push_dummies push_vertex push_start_ends
line-held L is_root J W H =
    nodes-held L J (L.count - 1) _
    (record { some = omega arith; held = held-push _ _ _ _ _ _ (omega arith) (held-push _ _ _ _ _ _ (omega arith) (held_more (omega arith) H)) })
