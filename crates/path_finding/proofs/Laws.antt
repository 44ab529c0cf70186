-- One turn of each loop, and each small function, as an equation of the definitions.
use Prim.Native.Nat.{ℕ, zero, suc, ◌+◌, ◌-◌, ◌*◌, ◌≤◌, ◌<◌}
use mathlib.Core.Path.{◌≡◌, refl, sym, ◌∙◌}
use mathlib.Core.List.{List, [], ◌∷◌, ◌++◌}
use mathlib.Core.Bool.{Bool, true, false, cond, not, ◌&&◌, ◌||◌}
use native.Mathlib.Numerals.{add-one}
use native.Mathlib.Omega.{arith}
use lib.IntN.{ℤ}
use lib.ListN.{length, get_or, set, take, length-take, replicate, get_or-replicate}
use lib.Seq.{get_or-take, take-suc-set, get_or-set_same, get_or-set_other}
use lib.Dec.{ltb, eqb}
use borrow.Author.Tests.{lt-ltb, le-ltb, eq-eqb, ne_eqb}
use Rattle.fixed.specs.Up.{BIAS, ups}
use native.Mathlib.Decide.{ℕ_discrete}
use Rattle.fixed.proofs.Lists.{length-ups}
use Rattle.nodes.specs.Graph.{none, seek}
use Rattle.nodes.proofs.Nodes.{seek-take, seek-le}
use Rattle.astar.specs.Reached.{Below}
use Rattle.columns.specs.Columns.{column, Only}
use Rattle.columns.proofs.Laws.{only-refl, only_then, column-first}
use Rattle.queue.specs.Queue.{NODES, UNSET}
use Rattle.queue.specs.Columns.{WIDTH, SUM, sums}
use Rattle.queue.proofs.Tournament.{empty-indexed}
use Rattle.astar.specs.Scratch.{SCORE, ESTIMATE, PRED, MARK, scores, estimates, preds, marked, Marked}
use Rattle.path_finding.specs.Lent.{Blank, Behind}
use Rattle.std.proofs.Common.{Option, Some, None, ap}
use Rattle.nodes.specs.Lent.{Below as Found}
use Rattle.astar.specs.Search.{holds, toward, way}
use Rattle.astar.proofs.Laws.{way-is, toward-le}
use Rattle.path_finding.specs.Places.{node_at, known}
use Rattle.path_finding.specs.Line.{START, NORMAL, END, has_link, admit, goals, table, place_at, kind_at, bit, direction_at, kept_at, pruned}

-- ---- a table, entry by entry

pub table-begin : (f : ℕ → ℕ) → [] ≡ table f 0
unfolding table
table-begin f = refl

module _ (f : ℕ → ℕ) (l : List ℕ) where
  pub table_more : (i v : ℕ) → take i l ≡ table f i → i < length l → v ≡ f i → take (i + 1) (set l i v) ≡ table f (i + 1)
  unfolding table
  table_more i v e h ev = rw (add-one, take-suc-set l i v h, e, ev)

module _ (f : ℕ → ℕ) (l : List ℤ) where
  pub table-put : (l' : List ℤ) (i v : ℕ) → take i (ups l) ≡ table f i → i < length l → ups l' ≡ set (ups l) i v → v ≡ f i → take (i + 1) (ups l') ≡ table f (i + 1)
  table-put l' i v e h s ev = rw s (table_more f (ups l) i v e (omega (arith, length-ups l)) ev)

-- ---- an entry of each output

pub place_on : (cs l : List ℕ) (k : ℕ) → k < length l → get_or cs (get_or l k 0) 0 ≡ place_at cs l k
unfolding place_at
place_on cs l k h = rw (lt-ltb _ _ h)

pub place-off : (cs l : List ℕ) (k : ℕ) → length l ≤ k → BIAS ≡ place_at cs l k
unfolding place_at
place-off cs l k h = rw (le-ltb _ _ h)

module _ (m k : ℕ) where
  pub kind-start : k + 1 < m → k ≡ 0 → START ≡ kind_at m k
  unfolding kind_at
  kind-start h e = rw (lt-ltb _ _ h, eq-eqb _ _ e)

  pub kind-normal : k + 1 < m → (k ≡ 0 → ⊥) → NORMAL ≡ kind_at m k
  unfolding kind_at
  kind-normal h e = rw (lt-ltb _ _ h, ne_eqb _ _ e)

  pub kind-end : m ≤ k + 1 → k < m → END ≡ kind_at m k
  unfolding kind_at
  kind-end h e = rw (le-ltb _ _ h, lt-ltb _ _ e)

  pub kind-off : m ≤ k + 1 → m ≤ k → 0 ≡ kind_at m k
  unfolding kind_at
  kind-off h e = rw (le-ltb _ _ h, le-ltb _ _ e)

module _ (ls l : List ℕ) (k : ℕ) where
  pub direction-on : (d : Option ℕ) (r : ℕ) → k + 1 < length l → Found d 4 (toward ls (get_or l k 0) (get_or l (k + 1) 0)) → r ≡ bit (way d) → r ≡ direction_at ls l k
  unfolding direction_at
  direction-on d r h f g = rw (lt-ltb _ _ h) (g ∙ ap bit (way-is d _ f (toward-le ls _ _)))

  pub direction-off : length l ≤ k + 1 → 0 ≡ direction_at ls l k
  unfolding direction_at
  direction-off h = rw (le-ltb _ _ h)

-- ---- a node that `iter_pruned` keeps

and-false : (a : Bool) → (a && false) ≡ false
and-false true = refl
and-false false = refl

kept-suc : (ks ds : List ℕ) (j : ℕ) → get_or ks (suc j) 0 ≡ NORMAL → (get_or ds (suc j) 0 ≡ 0 → ⊥) → not (eqb (get_or ds (suc j) 0) (get_or ds j 0)) ≡ kept_at ks ds (suc j)
unfolding kept_at
kept-suc ks ds j e h = rw (eq-eqb _ _ e, ne_eqb _ _ h)

module _ (ks ds : List ℕ) (k : ℕ) where
  pub kept-kind : (get_or ks k 0 ≡ NORMAL → ⊥) → true ≡ kept_at ks ds k
  unfolding kept_at
  kept-kind h = rw (ne_eqb _ _ h)

  pub kept-none : get_or ds k 0 ≡ 0 → true ≡ kept_at ks ds k
  unfolding kept_at
  kept-none h = rw (eq-eqb _ _ h, and-false (eqb (get_or ks k 0) NORMAL))

  pub kept_by : get_or ks k 0 ≡ NORMAL → (get_or ds k 0 ≡ 0 → ⊥) → (k ≡ 0 → ⊥) → not (eqb (get_or ds k 0) (get_or ds (k - 1) 0)) ≡ kept_at ks ds k
  kept_by e h z = go k refl e h z
    where
      go : (j : ℕ) → j ≡ k → get_or ks j 0 ≡ NORMAL → (get_or ds j 0 ≡ 0 → ⊥) → (j ≡ 0 → ⊥) → not (eqb (get_or ds k 0) (get_or ds (k - 1) 0)) ≡ kept_at ks ds k
      go zero q e h z = absurd (z refl)
      go (suc j) q e h z = let p : k - 1 ≡ j = omega arith in rw (p, ← q) (kept-suc ks ds j e h)

pub snoc : (l : List ℕ) (i v : ℕ) → i < length l → take (i + 1) (set l i v) ≡ take i l ++ (v ∷ [])
snoc l i v h = rw add-one (take-suc-set l i v h)

-- ---- the ends that count

or-false : (a : Bool) → (a || false) ≡ a
or-false true = refl
or-false false = refl

or-true : (a : Bool) → (a || true) ≡ true
or-true true = refl
or-true false = refl

pub holds_more : (v : ℕ) (gs : List ℕ) (e : ℕ) → holds v (gs ++ (e ∷ [])) ≡ (holds v gs || eqb v e)
unfolding holds
holds_more v [] e = or-false (eqb v e)
holds_more v (x ∷ gs) e = go (eqb v x) (holds_more v gs e)
  where
    go : (t : Bool) → holds v (gs ++ (e ∷ [])) ≡ (holds v gs || eqb v e) → (t || holds v (gs ++ (e ∷ []))) ≡ ((t || holds v gs) || eqb v e)
    go true h = refl
    go false h = h

module _ (ls gs : List ℕ) (e : ℕ) where
  pub admit-old : holds e gs ≡ true → gs ≡ admit ls gs e
  unfolding admit
  admit-old h = rw (h, and-false (has_link ls e))

  pub admit-bare : has_link ls e ≡ false → gs ≡ admit ls gs e
  unfolding admit
  admit-bare h = rw h

  pub admit-new : has_link ls e ≡ true → holds e gs ≡ false → gs ++ (e ∷ []) ≡ admit ls gs e
  unfolding admit
  admit-new h k = rw (h, k)

pub marked_more : (n : ℕ) (gs m : List ℕ) (e : ℕ) → length m ≡ n → Marked n gs m → e < n → Marked n (gs ++ (e ∷ [])) (set m e 1)
marked_more n gs m e long M en = record { each = λ v vn. by v vn (ℕ_discrete v e) }
  where
    by : (v : ℕ) → v < n → Dec (v ≡ e) → get_or (set m e 1) v 0 ≡ cond (holds v (gs ++ (e ∷ []))) 1 0
    by v vn (yes z) = rw (z, get_or-set_same m e 1 0 (omega arith), holds_more e gs e, eq-eqb e e refl, or-true (holds e gs))
    by v vn (no z) = rw (get_or-set_other m e v 1 0 z, holds_more v gs e, ne_eqb v e z, or-false (holds v gs)) (M.each v vn)

pub goals-more : (ls es : List ℕ) (k : ℕ) (gs hs : List ℕ) → gs ≡ goals ls es k → hs ≡ admit ls gs (get_or es k 0) → hs ≡ goals ls es (k + 1)
unfolding goals
goals-more ls es k gs hs e f = rw (add-one, ← e) f

pub goals-begin : (ls es : List ℕ) → [] ≡ goals ls es 0
unfolding goals
goals-begin ls es = refl

-- whether a node is marked says whether it counts
pub mark-is : (n : ℕ) (gs marks : List ℕ) (v : ℕ) → Marked n gs marks → v < n → not (eqb (get_or marks v 0) 0) ≡ holds v gs
mark-is n gs marks v M vn = rw (M.each v vn) (go (holds v gs))
  where
    go : (t : Bool) → not (eqb (cond t 1 0) 0) ≡ t
    go true = refl
    go false = refl

-- the end e listed behind the first m, and marked
module _ (list : List ℕ) (e m : ℕ) (room : m < length list) where
  pub listed : (ls : List ℕ) → holds e (take m list) ≡ false → has_link ls e ≡ true → take (m + 1) (set list m e) ≡ admit ls (take m list) e
  listed ls h l = snoc list m e room ∙ admit-new ls (take m list) e l h

  pub marked-listed : (n : ℕ) (marks marks' : List ℕ) → length marks ≡ n → e < n → Marked n (take m list) marks → marks' ≡ set marks e 1 → Marked n (take (m + 1) (set list m e)) marks'
  marked-listed n marks marks' long en M is = rw (snoc list m e room, is) (marked_more n (take m list) marks e long M en)

pub unmarked : (n : ℕ) (m : List ℕ) → m ≡ replicate n 0 → Marked n [] m
unfolding holds
unmarked n m e = record { each = λ v vn. rw e (get_or-replicate n v 0 0 vn) }

-- the first i of k ends are looked at, and those that count stand first
pub record Gathering (n k : ℕ) (ls list₀ cells₀ list cells : List ℕ) (m i : ℕ) : Type 0 where
  pub inside : i ≤ k
  pub few : m ≤ i
  pub counts : take m list ≡ goals ls (take k list₀) i
  pub marks : Marked n (take m list) (marked n cells)
  pub only : Only n MARK cells₀ cells
  pub long : length list ≡ length list₀
  pub left : (j : ℕ) → i ≤ j → get_or list j 0 ≡ get_or list₀ j 0

module _ (n k : ℕ) (ls list₀ cells₀ : List ℕ) where
  pub gathering-none : marked n cells₀ ≡ replicate n 0 → Gathering n k ls list₀ cells₀ list₀ cells₀ 0 0
  gathering-none e =
      record { inside = omega arith; few = omega arith; counts = goals-begin ls (take k list₀); marks = unmarked n (marked n cells₀) e; only = only-refl n MARK cells₀; long = refl; left = λ j h. refl }

  module _ (list cells : List ℕ) (m i : ℕ) (R : Gathering n k ls list₀ cells₀ list cells m i) (h : i < k) where
    next-is : get_or list i 0 ≡ get_or (take k list₀) i 0
    next-is = R.left i (omega arith) ∙ sym (get_or-take k list₀ i 0 h)

    pub gathering-in : k ≤ length list₀ → Below n (take k list₀) → get_or list i 0 < n
    gathering-in room b = rw next-is (b i (omega (arith, length-take k list₀)))

    pub gathering-on : (list' cells' : List ℕ) (r : ℕ) → r ≤ m + 1 → take r list' ≡ admit ls (take m list) (get_or list i 0) → Marked n (take r list') (marked n cells') → Only n MARK cells cells' → Behind m list list' → length list' ≡ length list
        → Gathering n k ls list₀ cells₀ list' cells' r (i + 1)
    gathering-on list' cells' r rm e M o b l =
        record {
          inside = omega arith;
          few = omega (arith, R.few);
          counts = goals-more ls (take k list₀) i (take m list) (take r list') R.counts (e ∙ rw next-is);
          marks = M;
          only = only_then n MARK cells₀ cells cells' R.only o;
          long = l ∙ R.long;
          left = λ j q. b.same j (omega (arith, R.few)) ∙ R.left j (omega arith);
        }

-- ---- blank cells: five columns and the tree filled

module _ (n : ℕ) (some : 0 < n) (few : n ≤ NODES) (a b c d e f t t' : List ℕ) (room : n * WIDTH ≤ length a) (tree_room : 2 * n ≤ length t)
    (e0 : scores n b ≡ replicate n UNSET) (o0 : Only n SCORE a b) (e1 : estimates n c ≡ replicate n UNSET) (o1 : Only n ESTIMATE b c)
    (e2 : preds n d ≡ replicate n none) (o2 : Only n PRED c d) (e3 : sums n e ≡ replicate n UNSET) (o3 : Only n SUM d e)
    (e4 : marked n f ≡ replicate n 0) (o4 : Only n MARK e f) (et : column 0 (2 * n) t' ≡ replicate (2 * n) UNSET) (ot : Only (2 * n) 0 t t') where
  sum_is : sums n f ≡ replicate n UNSET
  sum_is = o4.others 3 (λ z. omega (arith, z)) ∙ e3

  tree_is : 2 * n ≤ length t'
  tree_is = rw ot.long tree_room

  pub blanked : Blank n f t'
  blanked =
      record {
        room = rw (o4.long, o3.long, o2.long, o1.long, o0.long) room;
        score_blank =
            o4.others 0 (λ z. omega (arith, z)) ∙ o3.others 0 (λ z. omega (arith, z)) ∙ o2.others 0 (λ z. omega (arith, z)) ∙ o1.others 0 (λ z. omega (arith, z)) ∙ e0;
        estimate_blank = o4.others 1 (λ z. omega (arith, z)) ∙ o3.others 1 (λ z. omega (arith, z)) ∙ o2.others 1 (λ z. omega (arith, z)) ∙ e1;
        pred_blank = o4.others 2 (λ z. omega (arith, z)) ∙ o3.others 2 (λ z. omega (arith, z)) ∙ e2;
        sum_blank = sum_is;
        mark_blank = e4;
        index = empty-indexed n (sums n f) t' some few tree_is sum_is (sym (column-first (2 * n) t' tree_is) ∙ et);
      }

-- ---- places looked up

pub node-is : (n : ℕ) (xs ys exs eys : List ℕ) (k x y r : ℕ) → x ≡ get_or exs k 0 → y ≡ get_or eys k 0 → r ≡ seek xs ys n x y → (r ≡ node_at (take n xs) (take n ys) n exs eys k) × (r ≤ n)
unfolding node_at
node-is n xs ys exs eys k x y r ex ey e = (rw (seek-take xs ys n (get_or exs k 0) (get_or eys k 0), ← ex, ← ey) e, rw e (seek-le xs ys n x y))

module _ (xs ys : List ℕ) (n : ℕ) (exs eys : List ℕ) where
  pub known-begin : true ≡ known xs ys n exs eys 0
  unfolding known
  known-begin = refl

  pub known_more : (k v : ℕ) (ok : Bool) → ok ≡ known xs ys n exs eys k → v ≡ node_at xs ys n exs eys k → (ok && ltb v n) ≡ known xs ys n exs eys (k + 1)
  unfolding known
  known_more k v ok e f = rw (add-one, ← e, ← f)

  pub known-on : (k v : ℕ) → true ≡ known xs ys n exs eys k → Found (Some v) n (node_at xs ys n exs eys k) → true ≡ known xs ys n exs eys (k + 1)
  unfolding known
  known-on k v e f = rw (add-one, ← e, ← f.0, lt-ltb _ _ f.1)

  -- an end is no node
  pub known-off : (i k : ℕ) → i < k → Found None n (node_at xs ys n exs eys i) → false ≡ known xs ys n exs eys k
  unfolding known
  known-off i zero h f = absurd (omega arith)
  known-off i (suc k) h f = go (ℕ_discrete i k) (λ l. known-off i k l f)
    where
      go : Dec (i ≡ k) → (i < k → false ≡ known xs ys n exs eys k) → false ≡ (known xs ys n exs eys k && ltb (node_at xs ys n exs eys k) n)
      go (yes e) on = rw (← e, le-ltb _ _ f, and-false (known xs ys n exs eys i))
      go (no ne) on = rw (← on (omega arith))

-- ---- the nodes that are kept

module _ (ks ds : List ℕ) (k : ℕ) (l : List ℕ) (e : l ≡ pruned ks ds k) where
  pub pruned-on : true ≡ kept_at ks ds k → l ++ (k ∷ []) ≡ pruned ks ds (k + 1)
  unfolding pruned
  pruned-on h = rw (add-one, ← h, ← e)

  pub pruned-off : false ≡ kept_at ks ds k → l ≡ pruned ks ds (k + 1)
  unfolding pruned
  pruned-off h = rw (add-one, ← h) e

pub pruned-begin : (ks ds : List ℕ) → [] ≡ pruned ks ds 0
unfolding pruned
pruned-begin ks ds = refl
