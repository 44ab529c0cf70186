-- What the rows of a net's ends hold behind the ends in use does not matter: what is made of a net is made with zeros there too.
use mathlib.Core.Path.{◌≡◌, refl, sym, ap, ◌∙◌}
use mathlib.Core.Bool.{Bool, true, false, cond, not, ◌||◌}
use mathlib.Core.List.{List, ◌++◌, append-nil}
use Prim.Native.Nat.{ℕ, zero, suc, ◌+◌, ◌-◌, ◌*◌, ◌<◌, ◌≤◌}
use native.Mathlib.Omega.{arith}
use native.Mathlib.Decide.{dec_lt}
use lib.Dec.{eqb}
use lib.ListN.{length, get_or, take, set, replicate, length-append, length-set, length-replicate}
use lib.Seq.{length-take-le, take_all, take_at, take-suc-set, set_out, get_or-take}
use Rattle.zeros.specs.Zeros.{closed}
use Rattle.nodes.specs.Graph.{Graph}
use Rattle.path_finding.specs.Line.{table}
use Rattle.vertex.specs.Kinds.{Junction}
use Rattle.wire.specs.Ends.{put_end, stands, first_from, junction_end, end_distance, nearest_end}
use Rattle.wire.specs.Lines.{Line, straight}
use Rattle.wire.specs.Wires.{Vertices, Ends, ends as ends_of, Wires, wires, push_end, push_start, push_start_ends, push_corner, push_node, push_nodes, push_vertices, push_fallback_wire, push_fallback, line_vertices, line_ends, fallback_vertices}
use Rattle.routing.specs.Branches.{Tried, tried, fits, line_wire, fallback_wire, route_wire, joined_end, route_branch, join_branch}
use Rattle.routing.proofs.Joints.{nearest-le, joined_in}
use Rattle.net.specs.Nets.{Branched, branched, along, root_wire, end_word, branch_line, branch_from, branch_at}
use Rattle.net.proofs.Branching.{some-ends, unrefused, at-either}
use Rattle.connect.specs.Turns.{turn_at, turns_to, outcome}
use Rattle.connect.proofs.Keeping.{closed_same}

-- ---- lists with the same first n entries

record Agree (n : ℕ) (l m : List ℕ) : Type 0 where
  first : take n l ≡ take n m
  long : length l ≡ length m

-- an entry behind them, written in both
grow : (n k v : ℕ) (l m : List ℕ) → k ≡ suc n → Agree n l m → Agree k (set l n v) (set m n v)
grow n k v l m e K = rw e (record { first = by (dec_lt n (length l)); long = length-set l n v ∙ K.long ∙ sym (length-set m n v) })
  where
    by : Dec (n < length l) → take (suc n) (set l n v) ≡ take (suc n) (set m n v)
    by (yes h) = rw (take-suc-set l n v h, take-suc-set m n v (omega (arith, K.long)), K.first)
    by (no h) =
        rw (set_out l n v (omega arith), set_out m n v (omega (arith, K.long)), take_all (suc n) l (omega arith), take_all (suc n) m (omega (arith, K.long))) (sym (take_all n l (omega arith)) ∙ K.first ∙ take_all n m (omega (arith, K.long)))

agree-closed : (n : ℕ) (l : List ℕ) → Agree n l (closed 0 n l)
unfolding closed
agree-closed n l = by (dec_lt (length l) n)
  where
    by : Dec (length l < n) → Agree n l (take n l ++ replicate (length l - n) 0)
    by (yes h) =
        let z : length l - n ≡ 0 = omega arith in
        rw (z, append-nil (take n l), take_all n l (omega arith)) (record { first = refl; long = refl })
    by (no h) =
        let k = length-take-le n l (omega arith) in
        record { first = sym (take_at (take n l) (replicate (length l - n) 0) n k); long = omega (arith, k, length-append (take n l) (replicate (length l - n) 0), length-replicate {A = ℕ} (length l - n) 0) }

agree_same : (n : ℕ) (l m : List ℕ) → Agree n l m → closed 0 n l ≡ closed 0 n m
agree_same n l m K = closed_same 0 n m l K.first K.long

-- ---- zeros behind the ends

abbrev bare : Ends → Ends
bare E = ends_of (closed 0 (4 * E.m) E.rows) E.m

abbrev clear : Wires → Wires
clear W = wires W.page (bare W.net)

abbrev told : Tried → Tried
told T = tried T.number (clear T.wires)

abbrev whole : Branched → Branched
whole S = branched S.number (clear S.wires) S.joins S.j

again : (E : Ends) → bare E ≡ bare (bare E)
again E = ap (λ (l : List ℕ). ends_of l E.m) (agree_same (4 * E.m) E.rows _ (agree-closed (4 * E.m) E.rows))

again-all : (S : Branched) → whole S ≡ whole (whole S)
again-all S = ap (λ (E : Ends). branched S.number (wires S.wires.page E) S.joins S.j) (again S.wires.net)

-- f does not see what c clears: so of two that are equal once cleared
through : {A : Type 0} (c f : A → A) → ((X : A) → c (f X) ≡ c (f (c X))) → (X Y : A) → c X ≡ c Y → c (f X) ≡ c (f Y)
through c f g X Y e = g X ∙ ap (λ Z. c (f Z)) e ∙ sym (g Y)

either : {A : Type 0} (c : A → A) (b : Bool) (X Y X' Y' : A) → c X ≡ c X' → c Y ≡ c Y' → c (cond b X Y) ≡ c (cond b X' Y')
either c true X Y X' Y' x y = x
either c false X Y X' Y' x y = y

-- ---- what a wire adds

push : (px py v k : ℕ) (E : Ends) → bare (push_end px py v k E) ≡ bare (push_end px py v k (bare E))
unfolding push_end put_end
push px py v k E =
    ap (λ (l : List ℕ). ends_of l (E.m + 1)) (agree_same _ _ _ (grow _ _ _ _ _ (omega arith) (grow _ _ _ _ _ (omega arith) (grow _ _ _ _ _ (omega arith) (grow _ _ _ _ _ (omega arith) (agree-closed (4 * E.m) E.rows))))))

start-ends : (L : Line) (v : ℕ) (E : Ends) → bare (push_start_ends L v E) ≡ bare (push_start_ends L v (bare E))
unfolding push_start_ends
start-ends L v E = through bare (push_end _ _ _ _) (push _ _ _ _) _ _ (push _ _ _ _ E)

node : (L : Line) (J : Junction) (i : ℕ) (W : Wires) → clear (push_node L J i W) ≡ clear (push_node L J i (clear W))
unfolding push_node push_corner
node L J i W = either clear (straight L.kinds L.ways i) _ _ _ _ (on _ _ _ _ _) (on _ _ _ _ _)
  where
    on : (P : Vertices) (px py v k : ℕ) → wires P (bare (push_end px py v k W.net)) ≡ wires P (bare (push_end px py v k (bare W.net)))
    on P px py v k = ap (λ (E : Ends). wires P E) (push px py v k W.net)

nodes : (L : Line) (J : Junction) (k : ℕ) (W : Wires) → clear (push_nodes L J k W) ≡ clear (push_nodes L J k (clear W))
unfolding push_nodes
nodes L J zero W = ap (λ (E : Ends). wires W.page E) (again W.net)
nodes L J (suc k) W = through clear (push_node L J (suc k)) (node L J (suc k)) _ _ (nodes L J k W)

line : (L : Line) (is_root : Bool) (J : Junction) (W : Wires) → clear (push_vertices L is_root J W) ≡ clear (push_vertices L is_root J (clear W))
unfolding push_vertices
line L is_root J W =
    through clear (push_nodes L J (L.count - 1)) (nodes L J (L.count - 1)) _ _ (ap (λ (E : Ends). wires (push_start L is_root W.page) E) (start-ends L W.page.n W.net))

fallback : (sx sy ex ey : ℕ) (ahead : Bool) (J : Junction) (W : Wires) → clear (push_fallback sx sy ex ey ahead J W) ≡ clear (push_fallback sx sy ex ey ahead J (clear W))
unfolding push_fallback
fallback sx sy ex ey ahead J W =
    ap (λ (E : Ends). wires (push_fallback_wire sx sy ex ey ahead J W.page) E) (through bare (push_end _ _ _ _) (push _ _ _ _) _ _ (push _ _ _ _ W.net))

routed : (L : Line) (sx sy ex ey : ℕ) (ahead is_root : Bool) (J : Junction) (W : Wires) → told (route_wire L sx sy ex ey ahead is_root J W) ≡ told (route_wire L sx sy ex ey ahead is_root J (clear W))
unfolding route_wire line_wire fallback_wire
routed L sx sy ex ey ahead is_root J W =
    either told (eqb L.count 0) _ _ _ _ (either told (fits W.page.n (fallback_vertices sx sy ex ey ahead) W.net.m 2) (tried 0 (push_fallback sx sy ex ey ahead J W)) (tried 15 W) (tried 0 (push_fallback sx sy ex ey ahead J (clear W))) (tried 15 (clear W)) (ap (λ (X : Wires). tried 0 X) (fallback sx sy ex ey ahead J W)) (same 15))
    (either told (eqb L.count 1) (tried 14 W) _ (tried 14 (clear W)) _ (same 14) (either told (fits W.page.n (line_vertices L) W.net.m (line_ends L)) (tried 0 (push_vertices L is_root J W)) (tried 15 W) (tried 0 (push_vertices L is_root J (clear W))) (tried 15 (clear W)) (ap (λ (X : Wires). tried 0 X) (line L is_root J W)) (same 15)))
  where
    same : (k : ℕ) → told (tried k W) ≡ told (tried k (clear W))
    same k = ap (λ (E : Ends). tried k (wires W.page E)) (again W.net)

-- ---- what is read of the ends

module _ (E : Ends) where
  read : (k : ℕ) → k < 4 * E.m → get_or (bare E).rows k 0 ≡ get_or E.rows k 0
  read k h =
      sym (get_or-take (4 * E.m) (bare E).rows k 0 h) ∙ ap (λ (l : List ℕ). get_or l k 0) (sym (agree-closed (4 * E.m) E.rows).first) ∙ get_or-take (4 * E.m) E.rows k 0 h

  distance : (px py i : ℕ) → i < E.m → end_distance (bare E).rows px py i ≡ end_distance E.rows px py i
  unfolding end_distance
  distance px py i h = rw (read (4 * i) (omega arith), read (4 * i + 1) (omega arith))

  nearest : (px py k : ℕ) → k ≤ E.m → nearest_end (bare E).rows px py k ≡ nearest_end E.rows px py k
  unfolding nearest_end
  nearest px py zero h = refl
  nearest px py (suc k) h =
      rw (nearest px py k (omega arith), distance px py k (omega arith), distance px py (nearest_end E.rows px py k) (omega (arith, nearest-le E.rows px py k)))

  from : (px py k i : ℕ) → i + k ≤ E.m → first_from k (bare E).rows px py i ≡ first_from k E.rows px py i
  unfolding first_from stands
  from px py zero i h = refl
  from px py (suc k) i h = rw (from px py k (i + 1) (omega arith), read (4 * i) (omega arith), read (4 * i + 1) (omega arith))

  joined : (L : Line) (sx sy : ℕ) → joined_end L sx sy (bare E) ≡ joined_end L sx sy E
  unfolding joined_end junction_end
  joined L sx sy =
      rw (nearest sx sy E.m (omega arith), from (get_or L.x (L.count - 1) 0) (get_or L.y (L.count - 1) 0) (E.m - 1) 0 (omega arith))

  words : (w k : ℕ) → w < 4 → k ≤ E.m → table (end_word w (bare E).rows) k ≡ table (end_word w E.rows) k
  unfolding table end_word
  words w zero l h = refl
  words w (suc k) l h = rw (words w k l (omega arith), read (4 * k + w) (omega arith))

  branch-line : (G : Graph) (x y : ℕ) → branch_line G x y (bare E) ≡ branch_line G x y E
  unfolding branch_line
  branch-line G x y = rw (words 0 E.m (omega arith) (omega arith), words 1 E.m (omega arith) (omega arith))

-- ---- branches: a net has ends then

module _ (L : Line) (x y : ℕ) (ahead : Bool) (W : Wires) (some : 0 < W.net.m) where
  at : (w : ℕ) → w < 4 → get_or (bare W.net).rows (4 * joined_end L x y W.net + w) 0 ≡ get_or W.net.rows (4 * joined_end L x y W.net + w) 0
  at w h = read W.net _ (omega (arith, joined_in L x y W.net some))

  branch : told (route_branch L x y ahead W) ≡ told (route_branch L x y ahead (clear W))
  unfolding route_branch
  branch =
      rw (joined W.net L x y, read W.net (4 * joined_end L x y W.net) (omega (arith, joined_in L x y W.net some)), at 1 (omega arith), at 3 (omega arith)) (routed L x y _ _ ahead false _ W)

  joins : (R : List ℕ) (j : ℕ) → join_branch L x y ahead (clear W) R j ≡ join_branch L x y ahead W R j
  unfolding join_branch
  joins R j =
      rw (← ap (λ (T : Tried). T.number) branch, ← ap (λ (T : Tried). T.wires.page.n) branch, joined W.net L x y, at 2 (omega arith), at 3 (omega arith))

module _ (G : Graph) where
  branch-from : (x y : ℕ) (S : Branched) → 0 < S.wires.net.m → whole (branch_from G x y S) ≡ whole (branch_from G x y (whole S))
  unfolding branch_from
  branch-from x y S h =
      rw (branch-line S.wires.net G x y, joins (branch_line G x y S.wires.net) x y (along G x y) S.wires h S.joins S.j) (ap (λ (T : Tried). branched T.number T.wires (join_branch (branch_line G x y S.wires.net) x y (along G x y) S.wires S.joins S.j) (cond (eqb T.number 0) (S.j + 1) S.j)) (branch (branch_line G x y S.wires.net) x y (along G x y) S.wires h))

  module _ (px py : List ℕ) (a b : ℕ) where
    branch-at : (i : ℕ) (S : Branched) → (S.number ≡ 0 → 0 < S.wires.net.m) → whole (branch_at G px py a b i S) ≡ whole (branch_at G px py a b i (whole S))
    unfolding branch_at
    branch-at i S h = by (not (eqb S.number 0) || (eqb i a || eqb i b)) refl
      where
        by : (t : Bool) → (not (eqb S.number 0) || (eqb i a || eqb i b)) ≡ t
            → whole (cond t S (branch_from G (get_or px i 0) (get_or py i 0) S)) ≡ whole (cond t (whole S) (branch_from G (get_or px i 0) (get_or py i 0) (whole S)))
        by true e = again-all S
        by false e = branch-from (get_or px i 0) (get_or py i 0) S (h (unrefused S.number (eqb i a || eqb i b) e))

    -- ---- turns

    turn : (k : ℕ) (S : Branched) → (0 < k → S.number ≡ 0 → 0 < S.wires.net.m) → whole (turn_at G px py a b k S) ≡ whole (turn_at G px py a b k (whole S))
    unfolding turn_at root_wire
    turn zero S h = ap (λ (T : Tried). branched T.number T.wires S.joins S.j) (routed _ _ _ _ _ _ true _ S.wires)
    turn (suc k) S h = branch-at k S (h (omega arith))

    -- after the first turn a net has ends
    turn-some : (k : ℕ) (S : Branched) → (0 < k → S.number ≡ 0 → 0 < S.wires.net.m) → (turn_at G px py a b k S).number ≡ 0 → 0 < (turn_at G px py a b k S).wires.net.m
    unfolding turn_at root_wire branch_from route_branch
    turn-some zero S h = some-ends _ _ _ _ _ _ true _ S.wires
    turn-some (suc k) S h =
        at-either (λ (X : Branched). X.number ≡ 0 → 0 < X.wires.net.m) G px py a b k S (h (omega arith)) (λ z. some-ends _ _ _ _ _ _ false _ S.wires)

    turns-some : (k : ℕ) (S : Branched) → 0 < k → (turns_to G px py a b k S).number ≡ 0 → 0 < (turns_to G px py a b k S).wires.net.m
    unfolding turns_to
    turns-some zero S h = absurd (omega arith)
    turns-some (suc k) S h = turn-some k (turns_to G px py a b k S) (turns-some k S)

    turns : (k : ℕ) (S : Branched) → whole (turns_to G px py a b k S) ≡ whole (turns_to G px py a b k (whole S))
    unfolding turns_to
    turns zero S = again-all S
    turns (suc k) S =
        turn k (turns_to G px py a b k S) (turns-some k S) ∙ ap (λ (X : Branched). whole (turn_at G px py a b k X)) (turns k S) ∙ sym (turn k (turns_to G px py a b k (whole S)) (turns-some k (whole S)))

-- what the rows hold before the first turn does not matter
pub turns-unused : (G : Graph) (px py : List ℕ) (a b k : ℕ) (P : Vertices) (E E' R : List ℕ) (j : ℕ) → length E ≡ length E'
    → outcome (turns_to G px py a b k (branched 0 (wires P (ends_of E 0)) R j)) ≡ outcome (turns_to G px py a b k (branched 0 (wires P (ends_of E' 0)) R j))
turns-unused G px py a b k P E E' R j h =
    ap (λ (S : Branched). outcome S) (turns G px py a b k (branched 0 (wires P (ends_of E 0)) R j) ∙ ap (λ (l : List ℕ). whole (turns_to G px py a b k (branched 0 (wires P (ends_of l 0)) R j))) (agree_same 0 E E' (record { first = refl; long = h })) ∙ sym (turns G px py a b k (branched 0 (wires P (ends_of E' 0)) R j)))
