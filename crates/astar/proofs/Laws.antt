-- One turn of each loop, as an equation of the definitions.
use Prim.Native.Nat.{ℕ, zero, suc, ◌+◌, ◌*◌, ◌≤◌, ◌<◌, zero-le, min}
use mathlib.Core.Path.{◌≡◌, refl, sym, ◌∙◌}
use mathlib.Core.List.{List, [], ◌∷◌}
use mathlib.Core.Bool.{Bool, true, false, cond}
use native.Mathlib.Numerals.{add-one}
use lib.ListN.{length, get_or, set, drop, drop_of_length-le, replicate, get_or-replicate}
use lib.Seq.{drop-cons}
use lib.Dec.{eqb}
use borrow.Author.Tests.{lt-ltb, le-ltb, eq-eqb, ne_eqb, eqb-true, eqb-false}
use native.Mathlib.Omega.{arith}
use Rattle.fixed.specs.Steps.{penalty}
use mathlib.Core.Logic.{inl, ⊎_elim}
use native.Mathlib.Decide.{ℕ_discrete}
use Rattle.queue.specs.Queue.{UNSET}
use native.Mathlib.Nat.{add_assoc, le_refl}
use Rattle.nodes.specs.Graph.{Graph, none, opposite, onward}
use Rattle.std.proofs.Common.{Option, Some, None, IfSome}
use Rattle.nodes.specs.Lent.{Below as Found}
use Rattle.astar.specs.Search.{way, IsNode, FAR, MOVES, distance, dist, nearest, toward, arrives, arrival, run_length, straight_run, penalty_at, St, cost, replaced, replace, relax, begin}
use Rattle.astar.specs.Reached.{LIMIT, Ready}
use Rattle.astar.proofs.Roads.{along, along-lt, link, goes_on, apart, small}
use Rattle.columns.specs.Columns.{Only}
use Rattle.queue.specs.Columns.{SUM, sums}
use Rattle.astar.specs.Scratch.{SCORE, scores, preds, state, Unreached, Estimated}

-- ---- the estimate

pub nearest-le : (xs ys es : List ℕ) (v : ℕ) → nearest xs ys es v ≤ FAR
unfolding nearest
nearest-le xs ys [] v = omega arith
nearest-le xs ys (e ∷ es) v = omega (arith, nearest-le xs ys es v)

module _ (xs ys es : List ℕ) (v : ℕ) where
  pub nearest-begin : min FAR (nearest xs ys es v) ≡ nearest xs ys es v
  nearest-begin = omega (arith, nearest-le xs ys es v)

  nearest-at : (i : ℕ) → i < length es → nearest xs ys (drop i es) v ≡ min (distance xs ys v (get_or es i 0)) (nearest xs ys (drop (i + 1) es) v)
  unfolding nearest
  nearest-at i h = rw (drop-cons es i 0 h, add-one)

  -- the best of the first i and the nearest of the rest give the nearest of all
  pub nearest-more : (i best d : ℕ) → i < length es → min best (nearest xs ys (drop i es) v) ≡ nearest xs ys es v → d ≡ distance xs ys v (get_or es i 0)
      → min (min best d) (nearest xs ys (drop (i + 1) es) v) ≡ nearest xs ys es v
  nearest-more i best d h e same = omega (arith, nearest-at i h, e, same)

  pub nearest-done : (i best : ℕ) → length es ≤ i → best ≤ FAR → min best (nearest xs ys (drop i es) v) ≡ nearest xs ys es v → best ≡ nearest xs ys es v
  unfolding nearest
  nearest-done i best h l e = let z : drop i es ≡ [] = drop_of_length-le es {i = i} h in omega (arith, rw z at e)

-- ---- an estimate that is kept

module _ (n : ℕ) (xs ys es l : List ℕ) (E : Estimated n xs ys es l) (v : ℕ) (vn : v < n) where
  pub kept-known : (x : ℕ) → x ≡ get_or l v 0 → (x ≡ UNSET → ⊥) → x ≡ nearest xs ys es v
  kept-known x e h = e ∙ ⊎_elim (λ z. absurd (h (e ∙ z))) (λ z. z) (E.each v vn)

-- ---- a direction

-- the first direction in which w is the neighbour
module _ (ls : List ℕ) (v w : ℕ) where
  pub toward-at : (d : ℕ) → d < 4 → ((k : ℕ) → k < d → get_or ls (v * 4 + k) 0 ≡ w → ⊥) → get_or ls (v * 4 + d) 0 ≡ w → d ≡ toward ls v w
  unfolding toward
  toward-at zero l not h = rw (eq-eqb _ _ h)
  toward-at (suc zero) l not h = rw (ne_eqb _ _ (not 0 (omega arith)), eq-eqb _ _ h)
  toward-at (suc (suc zero)) l not h = rw (ne_eqb _ _ (not 0 (omega arith)), ne_eqb _ _ (not 1 (omega arith)), eq-eqb _ _ h)
  toward-at (suc (suc (suc zero))) l not h = rw (ne_eqb _ _ (not 0 (omega arith)), ne_eqb _ _ (not 1 (omega arith)), ne_eqb _ _ (not 2 (omega arith)), eq-eqb _ _ h)
  toward-at (suc (suc (suc (suc d)))) l not h = absurd (omega arith)

  pub toward-none : ((k : ℕ) → k < 4 → get_or ls (v * 4 + k) 0 ≡ w → ⊥) → 4 ≤ toward ls v w
  unfolding toward
  toward-none not = rw (ne_eqb _ _ (not 0 (omega arith)), ne_eqb _ _ (not 1 (omega arith)), ne_eqb _ _ (not 2 (omega arith)), ne_eqb _ _ (not 3 (omega arith))) (omega arith)

-- ---- the straight run

-- len is the length of the run from `from` to node, and k the moves that are left
pub record Walk (G : Graph) (p : List ℕ) (d from len node : ℕ) : Type 0 where
  pub k : ℕ
  pub same : len + run_length k G p node d ≡ run_length MOVES G p from d
  pub room : along G d node ≤ k
  pub inside : node < G.count
  pub sum : len + along G d node ≡ along G d from

module _ (G : Graph) (w : Ready G) (p : List ℕ) (d from : ℕ) where
  moves : LIMIT ≤ MOVES
  unfolding MOVES
  moves = omega arith

  pub walk_start : from < G.count → Walk G p d from 0 from
  walk_start h =
      record { k = MOVES; same = omega arith; room = omega (arith, along-lt G w d from, moves); inside = h; sum = omega arith }

  module _ (len node : ℕ) (r : Walk G p d from len node) where
    stop-none : (k : ℕ) → get_or p node 0 ≡ none → run_length k G p node d ≡ 0
    unfolding run_length
    stop-none zero h = refl
    stop-none (suc k) h = rw (eq-eqb _ _ h)

    stop-turn : (k : ℕ) → (get_or p node 0 ≡ none → ⊥) → (onward G d node ≡ get_or p node 0 → ⊥) → run_length k G p node d ≡ 0
    unfolding run_length
    stop-turn zero h t = refl
    stop-turn (suc k) h t = rw (ne_eqb _ _ h, ne_eqb _ _ t)

    pub walk_none : get_or p node 0 ≡ none → len ≡ run_length MOVES G p from d
    walk_none h = omega (arith, r.same, stop-none r.k h)

    -- p leads back to q
    module _ (q : ℕ) (b : IsNode (Some q) (get_or p node 0)) where
      pub walk_turn : (onward G d node ≡ q → ⊥) → len ≡ run_length MOVES G p from d
      walk_turn t = omega (arith, r.same, stop-turn r.k b.1 (λ z. t (z ∙ sym b.0)))

      module _ (lt : d < 4) (t : onward G d node ≡ q) where
        real : onward G d node ≡ none → ⊥
        real e = b.1 (sym b.0 ∙ sym t ∙ e)

        pub walk-in : q < G.count
        walk-in = rw (← t) (link G w node d r.inside lt real)

        pub walk-sum : along G d q + dist G node q ≡ along G d node
        walk-sum = rw (← t) (goes_on G w node d r.inside lt real)

        pub walk-pos : 0 < dist G node q
        walk-pos = rw (← t) (apart G w node d r.inside lt real)

        run_step : (k : ℕ) → run_length (suc k) G p node d ≡ dist G node q + run_length k G p q d
        unfolding run_length
        run_step k = rw (ne_eqb _ _ b.1, ← b.0, eq-eqb _ _ t)

        more : (k : ℕ) → along G d node ≤ k → len + run_length k G p node d ≡ run_length MOVES G p from d → Walk G p d from (len + dist G node q) q
        more zero room same = absurd (omega (arith, walk-sum, walk-pos))
        more (suc k) room same =
            record { k = k; same = add_assoc _ _ _ ∙ (rw run_step at same); room = omega (arith, walk-sum, walk-pos); inside = walk-in; sum = omega (arith, walk-sum, r.sum) }

        pub walk_step : (l : ℕ) → l ≡ dist G node q → Walk G p d from (len + l) q
        walk_step l e = rw e (more r.k r.room r.same)

-- ---- arrival and penalty

module _ (ls p : List ℕ) (v : ℕ) where
  pub arrives-none : get_or p v 0 ≡ none → 4 ≤ arrives ls p v
  unfolding arrives
  arrives-none e = rw (eq-eqb _ _ e) (omega arith)

  pub arrives-by : (u : ℕ) → IsNode (Some u) (get_or p v 0) → arrives ls p v ≡ toward ls u v
  unfolding arrives
  arrives-by u h = rw (ne_eqb _ _ h.1, h.0)

module _ (G : Graph) (p : List ℕ) (v : ℕ) where
  pub penalty-run : (d b r : ℕ) → Found (Some d) 4 (arrival G p v) → b ≡ opposite d → r ≡ run_length MOVES G p v b → penalty r ≡ penalty_at G p v
  unfolding penalty_at straight_run
  penalty-run d b r h f k = rw (← h.0, lt-ltb d 4 h.1, ← f, ← k)

  pub penalty-start : Found None 4 (arrival G p v) → penalty 0 ≡ penalty_at G p v
  unfolding penalty_at straight_run
  penalty-start h = rw (le-ltb _ 4 h)

-- ---- one move

cond-le : (t : Bool) {a b m : ℕ} → a ≤ m → b ≤ m → cond t a b ≤ m
cond-le true p q = p
cond-le false p q = q

pub turn-le : (d sd pen : ℕ) → cond (eqb d sd) 0 pen ≤ pen
turn-le d sd pen = cond-le (eqb d sd) zero-le (le_refl pen)

module _ (G : Graph) (es : List ℕ) (s : St) (u d sd pen : ℕ) where
  pub relax-back : d ≡ opposite sd → s ≡ relax G es s u d sd pen
  unfolding relax
  relax-back h = rw (eq-eqb _ _ h)

  pub relax-none : (d ≡ opposite sd → ⊥) → onward G d u ≡ none → s ≡ relax G es s u d sd pen
  unfolding relax
  relax-none h z = rw (ne_eqb _ _ h, eq-eqb _ _ z)

  module _ (v c : ℕ) (h : d ≡ opposite sd → ⊥) (r : onward G d u ≡ none → ⊥) (ev : v ≡ onward G d u) (ec : c ≡ get_or s.g u 0 + dist G u v + cond (eqb d sd) 0 pen) where
    is-cost : c ≡ cost G s.g u d sd pen
    unfolding cost
    is-cost = ec ∙ rw ev

    pub relax-keep : get_or s.g v 0 ≤ c → s ≡ relax G es s u d sd pen
    unfolding relax
    relax-keep l = rw (ne_eqb _ _ h, ne_eqb _ _ r, ← is-cost, ← ev, le-ltb _ _ l)

    pub relax-take : (t : St) → t ≡ replace G es s v u c → c < get_or s.g v 0 → t ≡ relax G es s u d sd pen
    unfolding relax
    relax-take t et l = rw (ne_eqb _ _ h, ne_eqb _ _ r, ← is-cost, ← ev, lt-ltb _ _ l) et

-- where a move leads
abbrev pub goal-of : Graph → ℕ → ℕ → ℕ → ℕ
goal-of G u d sd = cond (eqb d (opposite sd)) none (onward G d u)

module _ (G : Graph) (w : Ready G) (u d sd : ℕ) (un : u < G.count) (dn : d < 4) where
  not-back : (v : ℕ) → Found (Some v) G.count (goal-of G u d sd) → (d ≡ opposite sd → ⊥) × (v ≡ onward G d u)
  not-back v e = go (eqb d (opposite sd)) refl e.0
    where
      go : (t : Bool) → eqb d (opposite sd) ≡ t → v ≡ cond t none (onward G d u) → (d ≡ opposite sd → ⊥) × (v ≡ onward G d u)
      go true q f = absurd (omega (arith, f, e.1, small G w))
      go false q f = (eqb-false _ _ q, f)

  module _ (es : List ℕ) (s : St) (pen : ℕ) where
    pub move-none : Found None G.count (goal-of G u d sd) → s ≡ relax G es s u d sd pen
    move-none = go (eqb d (opposite sd)) refl
      where
        go : (t : Bool) → eqb d (opposite sd) ≡ t → G.count ≤ cond t none (onward G d u) → s ≡ relax G es s u d sd pen
        go true q f = relax-back G es s u d sd pen (eqb-true _ _ q)
        go false q f = by (ℕ_discrete (onward G d u) none)
          where
            by : Dec (onward G d u ≡ none) → s ≡ relax G es s u d sd pen
            by (yes z) = relax-none G es s u d sd pen (eqb-false _ _ q) z
            by (no z) = absurd (omega (arith, f, link G w u d un dn z))

    module _ (v c : ℕ) (e : Found (Some v) G.count (goal-of G u d sd)) (ec : c ≡ get_or s.g u 0 + dist G u v + cond (eqb d sd) 0 pen) where
      leads : onward G d u ≡ none → ⊥
      leads z = omega (arith, z, (not-back v e).1, e.1, small G w)

      pub move-not : get_or s.g v 0 ≤ c → s ≡ relax G es s u d sd pen
      move-not l = relax-keep G es s u d sd pen v c (not-back v e).0 leads (not-back v e).1 ec l

      pub move-to : (t : St) → t ≡ replaced G.xs G.ys es s v u c → c < get_or s.g v 0 → t ≡ relax G es s u d sd pen
      unfolding replace
      move-to t et l = relax-take G es s u d sd pen v c (not-back v e).0 leads (not-back v e).1 ec t et l

-- the start's score (a to b) and sum (to c)
pub begun : (n v : ℕ) (a b : List ℕ) → scores n b ≡ set (scores n a) v 0 → Only n SCORE a b → (c : List ℕ) → sums n c ≡ set (sums n b) v 0 → Only n SUM b c → Unreached n a
    → state n c ≡ begin n v
unfolding begin
begun n v a b es os c eq oq r =
    let g' : scores n c ≡ set (replicate n UNSET) v 0 = oq.others 0 (λ z. omega (arith, z)) ∙ es ∙ rw r.no_score in
    let p' : preds n c ≡ replicate n none = oq.others 2 (λ z. omega (arith, z)) ∙ os.others 2 (λ z. omega (arith, z)) ∙ r.no_pred in
    let q' : sums n c ≡ set (replicate n UNSET) v 0 = eq ∙ rw (os.others 3 (λ z. omega (arith, z)), r.no_sum) in
    rw (g', p', q')

pub unknown : (n : ℕ) (xs ys es l : List ℕ) → l ≡ replicate n UNSET → Estimated n xs ys es l
unknown n xs ys es l e = record { each = λ v vn. inl (rw e (get_or-replicate n v UNSET 0 vn)) }

pub toward-le : (ls : List ℕ) (v w : ℕ) → toward ls v w ≤ 4
unfolding toward
toward-le ls v w =
    let at : ℕ → Bool = λ d. eqb (get_or ls (v * 4 + d) 0) w in
    cond-le (at 0) (omega arith) (cond-le (at 1) (omega arith) (cond-le (at 2) (omega arith) (cond-le (at 3) (omega arith) (omega arith))))

pub arrival-le : (ls p : List ℕ) (v : ℕ) → arrives ls p v ≤ 4
unfolding arrives
arrival-le ls p v = cond-le (eqb (get_or p v 0) none) (omega arith) (toward-le ls (get_or p v 0) v)

-- ---- an arrival and its number

pub way-is : (o : Option ℕ) (v : ℕ) → Found o 4 v → v ≤ 4 → way o ≡ v
way-is None v h l = omega (arith, h)
way-is (Some d) v h l = h.0

pub way-low : (o : Option ℕ) (v : ℕ) → Found o 4 v → IfSome o (λ d. d < 4)
way-low None v h = tt
way-low (Some d) v h = h.1
