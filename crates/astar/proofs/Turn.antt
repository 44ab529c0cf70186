-- A turn of the search keeps the state good and makes it fall; so the search ends, and its answer is right.
use Prim.Native.Nat.{ℕ, zero, suc, ◌+◌, ◌*◌, ◌≤◌, ◌<◌, zero-le}
use mathlib.Core.Path.{◌≡◌, refl, sym, ap, ◌∙◌, subst}
use mathlib.Core.List.{List}
use mathlib.Core.Bool.{Bool, true, false, cond}
use native.Mathlib.Omega.{arith}
use native.Mathlib.Decide.{ℕ_discrete, dec_lt}
use native.Mathlib.Nat.{suc-mul}
use lib.ListN.{length, get_or, set, length-set, replicate, length-replicate, get_or-replicate}
use lib.Seq.{get_or-set_same, get_or-set_other}
use lib.Dec.{ltb}
use borrow.Author.Tests.{lt-ltb, le-ltb, ltb-true, ltb-false}
use Rattle.queue.specs.Queue.{UNSET, top, popped}
use Rattle.std.proofs.Common.{Some as Item, None}
use Rattle.queue.proofs.Ranges.{least-in}
use Rattle.nodes.specs.Graph.{Graph, none, opposite, onward}
use Rattle.astar.specs.Search.{HIGH, TURNS, St, holds, arrival, penalty_at, relax, relax_to, expand, pop, run, out, Out, begin, IsNode}
use Rattle.astar.specs.Reached.{Reach, start, onto}
use Rattle.astar.specs.Scratch.{Marked}
use Rattle.astar.proofs.Roads.{Roads, STEEP}
use Rattle.astar.proofs.Count.{sum, one_in, sum-set, cnt-set, cnt-le}
use Rattle.astar.proofs.State.{Inv, Link, mu, relax-inv, relax-falls, relax-mu, back-ok}

-- ---- an expansion

module _ (n : ℕ) (G : Graph) (w : Roads n G) (es : List ℕ) (a u : ℕ) (s : St) (I : Inv n G es a u 0 s) (un : u < n) (ug : get_or s.g u 0 < UNSET)
    (sd pen : ℕ) (ea : sd ≡ arrival G s.p u) (pl : pen ≤ STEEP) where
  pub record Some (d : ℕ) (t : St) : Type 0 where
    pub inv : Inv n G es a u d t
    pub falls : (j : ℕ) → get_or t.g j 0 ≤ get_or s.g j 0
    pub less : mu t ≤ mu s

  next : (d : ℕ) (t : St) → d < 4 → Some d t → Some (suc d) (relax G es t u d sd pen)
  next d t dn S =
      let tg : get_or t.g u 0 < UNSET = omega (arith, S.falls u) in
      record {
        inv = relax-inv n G w es a u d sd pen t S.inv un tg dn pl
            (λ e r. omega (arith, back-ok n G w es a u u 0 s I un ug d dn (e ∙ ap opposite ea), S.falls (onward G d u)));
        falls = λ j. omega (arith, relax-falls n G w es a u d sd pen t S.inv un tg dn pl j, S.falls j);
        less = omega (arith, relax-mu n G w es a u d sd pen t S.inv un tg dn pl, S.less);
      }

  pub some : (d : ℕ) → d ≤ 4 → Some d (relax_to d G es s u sd pen)
  unfolding relax_to
  some zero l = record { inv = I; falls = λ j. omega arith; less = omega arith }
  some (suc d) l = next d (relax_to d G es s u sd pen) (omega arith) (some d (omega arith))

  -- the whole expansion
  pub whole : Some 4 (relax_to 4 G es s u sd pen)
  whole = some 4 (omega arith)

-- ---- a turn

module _ (n : ℕ) (G : Graph) (w : Roads n G) (es : List ℕ) (a : ℕ) (s : St) (I : Inv n G es a n 0 s) where
  abbrev u : ℕ
  u = top s.q

  pub top_in : u < n
  top_in = omega (arith, (least-in s.q (length s.q) (omega (arith, w.some, I.q_len))).to, I.q_len)

  ql : u < length s.q
  ql = omega (arith, top_in, I.q_len)

  -- an empty queue: each node with a score is done, and so is each that is reached
  module _ (empty : UNSET ≤ get_or s.q u 0) where
    out-q : (v : ℕ) → v < n → get_or s.q v 0 < UNSET → ⊥
    out-q v vn h = omega (arith, (least-in s.q (length s.q) (omega (arith, I.q_len))).low v zero-le (omega (arith, I.q_len)))

    all : a < n → {v : ℕ} → Reach G a v → (v < n) × (get_or s.g v 0 < UNSET)
    all an start = (an, I.first)
    all an (onto {v = v} {w = x} d r dn e z) =
        let h = all an r in
        let k : (onward G d v ≡ none → ⊥) = λ q. z (sym e ∙ q) in
        let l = w.inside v d h.0 dn k in
        let m = I.closed v d h.0 dn h.1 (out-q v h.0) (λ q. omega (arith, h.0, q)) k in
        (rw e at l, rw e at m)

    pub none_left : a < n → (v : ℕ) → Reach G a v → holds v es ≡ false
    none_left an v r =
        let h = all an r in
        I.done v h.0 h.1 (out-q v h.0) (λ q. omega (arith, h.0, q))

  module _ (full : get_or s.q u 0 < UNSET) where
    pub ug : get_or s.g u 0 < UNSET
    ug = I.queued u top_in full

    pub ur : Reach G a u
    ur = I.reach u top_in ug

    pub pop-inv : Inv n G es a u 0 (pop s)
    pop-inv =
        record {
          g_len = I.g_len;
          p_len = I.p_len;
          q_len = length-set s.q u UNSET ∙ I.q_len;
          bound = I.bound;
          queued = λ v vn h. queued' v vn (ℕ_discrete v u) h;
          reach = I.reach;
          done = λ v vn gh qh ne. I.done v vn gh (λ h. qh (rw (other v ne) h)) (λ q. omega (arith, vn, q));
          closed = λ v d vn dn gh qh ne. I.closed v d vn dn gh (λ h. qh (rw (other v ne) h)) (λ q. omega (arith, vn, q));
          here = λ d l. absurd (omega (arith, l));
          pred = I.pred;
          first = I.first;
          rooted = I.rooted;
        }
      where
        other : (v : ℕ) → (v ≡ u → ⊥) → get_or (set s.q u UNSET) v 0 ≡ get_or s.q v 0
        other v ne = get_or-set_other s.q u v UNSET 0 ne

        queued' : (v : ℕ) → v < n → Dec (v ≡ u) → get_or (set s.q u UNSET) v 0 < UNSET → get_or s.g v 0 < UNSET
        queued' v vn (yes e) h = absurd (omega (arith, rw (e, get_or-set_same s.q u UNSET 0 ql) at h))
        queued' v vn (no ne) h = I.queued v vn (rw (other v ne) at h)

    pub pop-mu : mu (pop s) + 1 ≡ mu s
    pop-mu = omega (arith, cnt-set s.q u UNSET ql, one_in (get_or s.q u 0) full)

    module _ (plain : holds u es ≡ false) where
      finish : (t : St) → Inv n G es a u 4 t → Inv n G es a n 0 t
      finish t J =
          record {
            g_len = J.g_len;
            p_len = J.p_len;
            q_len = J.q_len;
            bound = J.bound;
            queued = J.queued;
            reach = J.reach;
            done = λ v vn gh qh _. done' v vn gh qh (ℕ_discrete v u);
            closed = λ v d vn dn gh qh _ r. closed' v d vn dn gh qh (ℕ_discrete v u) r;
            here = λ d l. absurd (omega (arith, l));
            pred = J.pred;
            first = J.first;
            rooted = J.rooted;
          }
        where
          done' : (v : ℕ) → v < n → get_or t.g v 0 < UNSET → (get_or t.q v 0 < UNSET → ⊥) → Dec (v ≡ u) → holds v es ≡ false
          done' v vn gh qh (yes e) = rw e plain
          done' v vn gh qh (no ne) = J.done v vn gh qh ne

          closed' : (v d : ℕ) → v < n → d < 4 → get_or t.g v 0 < UNSET → (get_or t.q v 0 < UNSET → ⊥) → Dec (v ≡ u)
              → (onward G d v ≡ none → ⊥) → get_or t.g (onward G d v) 0 < UNSET
          closed' v d vn dn gh qh (yes e) =
              subst (λ (k : ℕ). (onward G d k ≡ none → ⊥) → get_or t.g (onward G d k) 0 < UNSET) (sym e) (J.here d dn)
          closed' v d vn dn gh qh (no ne) = J.closed v d vn dn gh qh ne

      abbrev done4 : Some n G w es a u (pop s) pop-inv top_in ug (arrival G s.p u) (penalty_at G s.p u) refl (w.steep s.p u top_in) 4 (relax_to 4 G es (pop s) u (arrival G s.p u) (penalty_at G s.p u))
      done4 = whole n G w es a u (pop s) pop-inv top_in ug (arrival G s.p u) (penalty_at G s.p u) refl (w.steep s.p u top_in)

      pub turn-inv : Inv n G es a n 0 (expand G es (pop s) u)
      unfolding expand
      turn-inv = finish _ done4.inv

      pub turn-mu : mu (expand G es (pop s) u) < mu s
      unfolding expand
      turn-mu = omega (arith, pop-mu, done4.less)

-- ---- the run, a turn at a time

module _ (G : Graph) (es : List ℕ) (s : St) where
  pub run-empty : (k : ℕ) → UNSET ≤ get_or s.q (top s.q) 0 → run k G es s ≡ out none (pop s)
  unfolding run
  run-empty zero h = refl
  run-empty (suc k) h = rw (le-ltb _ _ h)

  module _ (full : get_or s.q (top s.q) 0 < UNSET) where
    pub run-hit : (k : ℕ) → (holds (top s.q) es ≡ true) → run (suc k) G es s ≡ out (top s.q) (pop s)
    unfolding run
    run-hit k e = rw (lt-ltb _ _ full, e)

    pub run_on : (k : ℕ) → holds (top s.q) es ≡ false → run (suc k) G es s ≡ run k G es (expand G es (pop s) (top s.q))
    unfolding run
    run_on k e = rw (lt-ltb _ _ full, e)

-- what an answer says: an end that is reached, or that no end is
pub record Right (n : ℕ) (G : Graph) (es : List ℕ) (a : ℕ) (o : Out) : Type 0 where
  pub hit : (o.at ≡ none → ⊥) → (o.at < n) × (holds o.at es ≡ true) × Reach G a o.at
  pub miss : o.at ≡ none → (v : ℕ) → Reach G a v → holds v es ≡ false
  pub lines : (v : ℕ) → v < n → (get_or o.end.p v 0 ≡ none → ⊥) → Link n G o.end.g o.end.p v
  pub rooted : (v : ℕ) → v < n → get_or o.end.g v 0 < UNSET → get_or o.end.p v 0 ≡ none → v ≡ a
  pub scored : (o.at ≡ none → ⊥) → get_or o.end.g o.at 0 < UNSET
  pub g_len : length o.end.g ≡ n

module _ (n : ℕ) (G : Graph) (w : Roads n G) (es : List ℕ) (a : ℕ) (an : a < n) where
  right-empty : (s : St) (I : Inv n G es a n 0 s) → UNSET ≤ get_or s.q (top s.q) 0 → Right n G es a (out none (pop s))
  right-empty s I h = record { hit = λ z. absurd (z refl); miss = λ _ v r. none_left n G w es a s I h an v r; lines = I.pred; rooted = I.rooted; scored = λ z. absurd (z refl); g_len = I.g_len }

  right-hit : (s : St) (I : Inv n G es a n 0 s) → get_or s.q (top s.q) 0 < UNSET → (holds (top s.q) es ≡ true)
      → Right n G es a (out (top s.q) (pop s))
  right-hit s I full e =
      record { hit = λ _. (top_in n G w es a s I, e, ur n G w es a s I full); miss = λ z. absurd (omega (arith, z, top_in n G w es a s I, w.few)); lines = I.pred; rooted = I.rooted; scored = λ _. ug n G w es a s I full; g_len = I.g_len }

  pub right : (k : ℕ) (s : St) → Inv n G es a n 0 s → mu s ≤ k → Right n G es a (run k G es s)
  right zero s I m = go (dec_lt (get_or s.q (top s.q) 0) UNSET)
    where
      go : Dec (get_or s.q (top s.q) 0 < UNSET) → Right n G es a (run zero G es s)
      go (yes full) = absurd (omega (arith, pop-mu n G w es a s I full))
      go (no h) = rw (run-empty G es s 0 (omega arith)) (right-empty s I (omega arith))
  right (suc k) s I m = go (dec_lt (get_or s.q (top s.q) 0) UNSET) (holds (top s.q) es) refl (λ t J l. right k t J l)
    where
      go : Dec (get_or s.q (top s.q) 0 < UNSET) → (t : Bool) → holds (top s.q) es ≡ t
          → ((t : St) → Inv n G es a n 0 t → mu t ≤ k → Right n G es a (run k G es t)) → Right n G es a (run (suc k) G es s)
      go (no h) d e ih = rw (run-empty G es s (suc k) (omega arith)) (right-empty s I (omega arith))
      go (yes full) true e ih = rw (run-hit G es s full k e) (right-hit s I full e)
      go (yes full) false e ih =
          rw (run_on G es s full k e) (ih _ (turn-inv n G w es a s I full e) (omega (arith, turn-mu n G w es a s I full e)))

  -- ---- the first state

  UNSET-g : (v : ℕ) → v < n → (v ≡ a → ⊥) → get_or (set (replicate n UNSET) a 0) v 0 ≡ UNSET
  UNSET-g v vn ne = get_or-set_other (replicate n UNSET) a v 0 0 ne ∙ get_or-replicate n v UNSET 0 vn

  al : a < length (replicate n UNSET)
  al = rw (length-replicate n UNSET) an

  at_a : get_or (set (replicate n UNSET) a 0) a 0 ≡ 0
  at_a = get_or-set_same (replicate n UNSET) a 0 0 al

  only : (v : ℕ) → v < n → get_or (set (replicate n UNSET) a 0) v 0 < UNSET → v ≡ a
  only v vn h = go (ℕ_discrete v a)
    where
      go : Dec (v ≡ a) → v ≡ a
      go (yes e) = e
      go (no ne) = absurd (omega (arith, UNSET-g v vn ne))

  pub begin-inv : Inv n G es a n 0 (begin n a)
  unfolding begin
  begin-inv =
      record {
        g_len = length-set (replicate n UNSET) a 0 ∙ length-replicate n UNSET;
        p_len = length-replicate n none;
        q_len = length-set (replicate n UNSET) a 0 ∙ length-replicate n UNSET;
        bound = λ v vn h. rw (only v vn h, at_a) zero-le;
        queued = λ v vn h. h;
        reach = λ v vn h. subst (λ (x : ℕ). Reach G a x) (sym (only v vn h)) start;
        done = λ v vn gh qh _. absurd (qh gh);
        closed = λ v d vn dn gh qh _. absurd (qh gh);
        here = λ d l. absurd (omega (arith, l));
        pred = λ v vn h. absurd (h (get_or-replicate n v none 0 vn));
        first = rw at_a (omega arith);
        rooted = λ v vn h _. only v vn h;
      }

  sum-replicate : (m x : ℕ) → sum (replicate m x) ≡ m * x
  sum-replicate zero x = omega arith
  sum-replicate (suc m) x = rw suc-mul (omega (arith, sum-replicate m x))

  pub begin-mu : mu (begin n a) ≤ TURNS
  unfolding begin TURNS
  begin-mu =
      omega (arith, sum-set (replicate n UNSET) a 0 al, sum-replicate n UNSET, cnt-le (set (replicate n UNSET) a 0), length-set (replicate n UNSET) a 0, length-replicate n UNSET, w.few)

  -- the search's answer is right
  pub answer : Right n G es a (run TURNS G es (begin n a))
  answer = right TURNS (begin n a) begin-inv begin-mu

-- what the outer loop keeps: the run from here is the run from the start
pub record Going (n : ℕ) (G : Graph) (es : List ℕ) (a : ℕ) (s : St) : Type 0 where
  pub k : ℕ
  pub same : run k G es s ≡ run TURNS G es (begin n a)
  pub room : mu s ≤ k
  pub inv : Inv n G es a n 0 s

pop-full : (q : List ℕ) (u : ℕ) → Item u ≡ popped q → (get_or q (top q) 0 < UNSET) × (top q ≡ u)
pop-full q u e = go (ltb (get_or q (top q) 0) UNSET) refl (sym e)
  where
    go : (t : Bool) → ltb (get_or q (top q) 0) UNSET ≡ t → cond t (Item (top q)) None ≡ Item u → (get_or q (top q) 0 < UNSET) × (top q ≡ u)
    go true b h = (ltb-true _ _ b, cc)
    go false b h = let z : ⊥ = cc in absurd z

pop-empty : (q : List ℕ) → None ≡ popped q → UNSET ≤ get_or q (top q) 0
pop-empty q e = go (ltb (get_or q (top q) 0) UNSET) refl (sym e)
  where
    go : (t : Bool) → ltb (get_or q (top q) 0) UNSET ≡ t → cond t (Item (top q)) None ≡ None → UNSET ≤ get_or q (top q) 0
    go true b h = let z : ⊥ = cc in absurd z
    go false b h = ltb-false _ _ b

-- ---- the code's turn: s' is what `pop_least` leaves
module _ (n : ℕ) (G : Graph) (w : Roads n G) (es : List ℕ) (a : ℕ) (s : St) (K : Going n G es a s) (s' : St) (eq : s' ≡ pop s) where
  pub going-empty : None ≡ popped s.q → ((run TURNS G es (begin n a)).at ≡ none) × (s' ≡ (run TURNS G es (begin n a)).end)
  going-empty h =
      let x : out none (pop s) ≡ run TURNS G es (begin n a) = sym (run-empty G es s K.k (pop-empty s.q h)) ∙ K.same in
      (sym (ap (λ (o : Out). o.at) x), eq ∙ ap (λ (o : Out). o.end) x)

  module _ (u : ℕ) (h : Item u ≡ popped s.q) where
    full : get_or s.q (top s.q) 0 < UNSET
    full = (pop-full s.q u h).0

    is-top : top s.q ≡ u
    is-top = (pop-full s.q u h).1

    pub going-in : u < n
    going-in = rw (← is-top) (top_in n G w es a s K.inv)

    scored : get_or s.g u 0 < UNSET
    scored = rw (← is-top) (ug n G w es a s K.inv full)

    pub going-low : get_or s'.g u 0 ≤ HIGH
    going-low = rw eq low
      where
        low : get_or s.g u 0 ≤ HIGH
        low = omega (arith, K.inv.bound u going-in scored, cnt-le s.g, K.inv.g_len, w.few)

    pub going-pred : (get_or s'.p u 0 ≡ none → ⊥) → get_or s'.p u 0 < n
    going-pred = rw eq pred
      where
        pred : (get_or s.p u 0 ≡ none → ⊥) → get_or s.p u 0 < n
        pred z = (K.inv.pred u going-in z).inside

    -- some TURNS is left, since the queue is not empty
    left : (k : ℕ) → mu s ≤ k → (m : ℕ) × (k ≡ suc m)
    left zero l = absurd (omega (arith, pop-mu n G w es a s K.inv full))
    left (suc m) l = (m, refl)

    abbrev m : (m : ℕ) × (K.k ≡ suc m)
    m = left K.k K.room

    same' : run (suc m.0) G es s ≡ run TURNS G es (begin n a)
    same' = subst (λ (x : ℕ). run x G es s ≡ run TURNS G es (begin n a)) m.1 K.same

    pub going-hit : (holds u es ≡ true)
        → IsNode (Item u) (run TURNS G es (begin n a)).at × (s' ≡ (run TURNS G es (begin n a)).end)
    going-hit e =
        let e' : holds (top s.q) es ≡ true = rw is-top e in
        let x : out (top s.q) (pop s) ≡ run TURNS G es (begin n a) = sym (run-hit G es s full m.0 e') ∙ same' in
        let at : u ≡ (run TURNS G es (begin n a)).at = sym is-top ∙ ap (λ (o : Out). o.at) x in
        ((at, λ z. omega (arith, at ∙ z, going-in, w.few)), eq ∙ ap (λ (o : Out). o.end) x)

    module _ (e : holds u es ≡ false) (t : St) (et : t ≡ expand G es s' u) where
      e' : holds (top s.q) es ≡ false
      e' = rw is-top e

      is-turn : t ≡ expand G es (pop s) (top s.q)
      is-turn = et ∙ rw (eq, ← is-top)

      pub going_less : mu t < mu s
      going_less = rw is-turn (turn-mu n G w es a s K.inv full e')

      pub going_on : Going n G es a t
      going_on =
          record {
            k = m.0;
            same = rw is-turn (sym (run_on G es s full m.0 e') ∙ same');
            room = omega (arith, going_less, K.room, m.1);
            inv = rw is-turn (turn-inv n G w es a s K.inv full e');
          }

-- the loop's first state
pub going-first : (n : ℕ) (G : Graph) → Roads n G → (es : List ℕ) (a : ℕ) → a < n → (s : St) → s ≡ begin n a → Going n G es a s
going-first n G w es a an s e =
    rw e (record { k = TURNS; same = refl; room = begin-mu n G w es a an; inv = begin-inv n G w es a an })

-- what the test of a mark says
module _ (n : ℕ) (es l : List ℕ) (M : Marked n es l) (u : ℕ) (un : u < n) (x : ℕ) (ex : x ≡ get_or l u 0) where
  pub marked-yes : (x ≡ 0 → ⊥) → holds u es ≡ true
  marked-yes h = go (holds u es) (ex ∙ M.each u un)
    where
      go : (t : Bool) → x ≡ cond t 1 0 → t ≡ true
      go true e = refl
      go false e = absurd (h e)

  pub marked-no : x ≡ 0 → holds u es ≡ false
  marked-no h = go (holds u es) (ex ∙ M.each u un)
    where
      go : (t : Bool) → x ≡ cond t 1 0 → t ≡ false
      go true e = absurd (omega arith)
      go false e = refl

-- any number of turns from `mu s` on gives the same run: which number TURNS is does not matter
module _ (n : ℕ) (G : Graph) (w : Roads n G) (es : List ℕ) (a : ℕ) where
  bare : (s : St) → Inv n G es a n 0 s → (k m : ℕ) → (mu s ≡ 0) → run k G es s ≡ run m G es s
  bare s I k m z = go (dec_lt (get_or s.q (top s.q) 0) UNSET)
    where
      go : Dec (get_or s.q (top s.q) 0 < UNSET) → run k G es s ≡ run m G es s
      go (yes full) = absurd (omega (arith, pop-mu n G w es a s I full))
      go (no h) = run-empty G es s k (omega arith) ∙ sym (run-empty G es s m (omega arith))

  pub enough : (k m : ℕ) (s : St) → Inv n G es a n 0 s → mu s ≤ k → mu s ≤ m → run k G es s ≡ run m G es s
  enough zero m s I lk lm = bare s I zero m (omega arith)
  enough (suc k) zero s I lk lm = bare s I (suc k) zero (omega arith)
  enough (suc k) (suc m) s I lk lm =
      go (dec_lt (get_or s.q (top s.q) 0) UNSET) (holds (top s.q) es) refl (λ t J. enough k m t J)
    where
      go : Dec (get_or s.q (top s.q) 0 < UNSET) → (t : Bool) → holds (top s.q) es ≡ t
          → ((t : St) → Inv n G es a n 0 t → mu t ≤ k → mu t ≤ m → run k G es t ≡ run m G es t) → run (suc k) G es s ≡ run (suc m) G es s
      go (no h) d e ih = run-empty G es s (suc k) (omega arith) ∙ sym (run-empty G es s (suc m) (omega arith))
      go (yes full) true e ih = run-hit G es s full k e ∙ sym (run-hit G es s full m e)
      go (yes full) false e ih =
          let l = turn-mu n G w es a s I full e in
          run_on G es s full k e ∙ ih _ (turn-inv n G w es a s I full e) (omega arith) (omega arith) ∙ sym (run_on G es s full m e)
