-- What the functions do to the lent graph, and the loop of pruning.
--     back-none, back-aimed, back-left, back-all    the loop over a node's neighbours
--     links-moved, moved_is, shrunk, drop-last, drop-inner, drop-count    a node that goes
--     goes_at, prune-stays, prune-goes    a node asked
--     Pruning, prune-on, prune-done    all nodes asked
--     prune-less    pruning makes no node
use mathlib.Core.Path.{◌≡◌, refl, sym, ◌∙◌}
use mathlib.Core.Bool.{Bool, true, false}
use mathlib.Core.List.{List, [], ◌∷◌}
use Prim.Native.Nat.{ℕ, zero, suc, ◌+◌, ◌-◌, ◌*◌, ◌%◌, ◌<◌, ◌≤◌}
use native.Mathlib.Numerals.{add-one}
use native.Mathlib.Omega.{arith}
use borrow.Author.Tests.{eq-eqb, ne_eqb, ltb-true, lt-ltb, le-ltb}
use lib.Dec.{eqb, ltb, leb}
use lib.ListN.{get_or, take}
use lib.Seq.{take-take}
use Rattle.fixed.proofs.Bools.{and_left, and_right}
use Rattle.fixed.specs.Up.{ups}
use Rattle.nodes.specs.declared.Graph.{Graph as Store}
use Rattle.nodes.specs.Graph.{Graph, X, Y, onward, mark_of, opposite, stand, aim, mark_as, link}
use Rattle.nodes.specs.Columns.{links_of, graph_of}
use Rattle.nodes.proofs.Nodes.{cond_ind}
use Rattle.prune.specs.Prune.{moved, only, pick, straight, with_links, moved_links, back, backs, relink, shrink, drop_node, join, prune_by, prune_at, prune_from, prune}

-- ---- the neighbours' links

-- the neighbours in the first k directions link back
pub backs_to : List ℕ → ℕ → ℕ → ℕ → List ℕ
backs_to ls n i zero = ls
backs_to ls n i (suc k) = back (backs_to ls n i k) n i k

-- the graph g, in which the neighbours of i in the directions below d link back
pub record Backed (g₀ g : Graph) (i d : ℕ) : Type 0 where
  pub kept : g.count ≡ g₀.count
  pub same : g ≡ with_links g₀ (backs_to g₀.links g₀.count i d)

module _ {g₀ g : Graph} {i d : ℕ} (p : Backed g₀ g i d) where
  back-on : (g' : Graph) → g' ≡ with_links g (back g.links g.count i d) → Backed g₀ g' i (d + 1)
  unfolding with_links backs_to
  back-on g' q = record { kept = rw q p.kept; same = rw (q, p.same, add-one d) }

  pub back-aimed : (g' : Graph) (v : ℕ) → (v ≡ onward g d i) × (v < g.count) → g' ≡ aim g (v * 4 + opposite d) i → Backed g₀ g' i (d + 1)
  unfolding aim with_links back
  back-aimed g' v h q = back-on g' (rw (q, ← h.0, lt-ltb _ _ h.1))

  pub back-left : g.count ≤ onward g d i → Backed g₀ g i (d + 1)
  unfolding with_links back
  back-left h = back-on g (rw (le-ltb _ _ h))

pub back-none : (g : Graph) (i : ℕ) → Backed g g i 0
unfolding with_links backs_to
back-none g i = record { kept = refl; same = refl }

pub back-all : {g₀ g : Graph} {i : ℕ} → Backed g₀ g i 4 → g ≡ with_links g₀ (backs g₀.links g₀.count i)
unfolding backs backs_to
back-all p = p.same

-- ---- the last node takes the index of one that goes

links-take : (k : ℕ) (ls : List (List ℕ)) → take (k * 4) (links_of ls) ≡ links_of (take k ls)
unfolding links_of
links-take zero ls = refl
links-take (suc k) [] = let e : suc k * 4 ≡ suc (suc (suc (suc (k * 4)))) = omega arith in rw e
links-take (suc k) (a ∷ ls) = let e : suc k * 4 ≡ suc (suc (suc (suc (k * 4)))) = omega arith in rw (e, links-take k ls)

pub links-moved : (g g1 g2 g3 g4 : Graph) (i j a b c d : ℕ) → a ≡ onward g 0 j → b ≡ onward g 1 j → c ≡ onward g 2 j → d ≡ onward g 3 j
    → g1 ≡ aim g (i * 4 + 0) a → g2 ≡ aim g1 (i * 4 + 1) b → g3 ≡ aim g2 (i * 4 + 2) c → g4 ≡ aim g3 (i * 4 + 3) d → g4 ≡ with_links g (moved_links g.links i j)
unfolding aim with_links moved_links
links-moved g g1 g2 g3 g4 i j a b c d ea eb ec ed q1 q2 q3 q4 =
    let zi : i * 4 + 0 ≡ i * 4 = omega arith in
    let zj : j * 4 + 0 ≡ j * 4 = omega arith in
    rw (q4, q3, q2, q1, ea, eb, ec, ed, zi, zj)

pub moved_is : (g g1 g2 g3 : Graph) (i j x y m : ℕ) → x ≡ X g j → y ≡ Y g j
    → g1 ≡ stand g i x y → g2 ≡ with_links g1 (moved_links g1.links i j) → m ≡ mark_of g2 j → g3 ≡ mark_as g2 i m → g3 ≡ moved g i j
unfolding stand mark_as with_links moved
moved_is g g1 g2 g3 i j x y m ex ey q1 q2 em q3 = rw (q3, em, q2, q1, ex, ey)

pub shrunk : (s : Store) (n : ℕ) → s.count ≡ n
    → record { count = n - 1; xs = take (n - 1) (ups s.xs); ys = take (n - 1) (ups s.ys); links = links_of (take (n - 1) s.links); marks = take (n - 1) s.marks } ≡ shrink (graph_of s)
unfolding shrink
shrunk s n e =
    let m : ℕ = s.count - 1 in
    let low : m ≤ s.count = omega arith in
    rw (← e, links-take m (take s.count s.links), take-take m s.count (ups s.xs) low, take-take m s.count (ups s.ys) low, take-take m s.count s.links low, take-take m s.count s.marks low)

pub drop-last : (s : Store) (i : ℕ) → i ≡ s.count - 1 → shrink (graph_of s) ≡ drop_node (graph_of s) i
unfolding drop_node
drop-last s i e = rw (eq-eqb _ _ e)

pub relinked-count : (g g1 : Graph) (ls : List ℕ) → g ≡ with_links g1 ls → g.count ≡ g1.count
unfolding with_links
relinked-count g g1 ls e = rw e

pub drop-inner : (g g1 g2 : Graph) (i : ℕ) → (i ≡ g.count - 1 → ⊥) → g1 ≡ moved g i (g.count - 1) → g2 ≡ with_links g1 (backs g1.links g1.count i) → shrink g2 ≡ drop_node g i
unfolding drop_node relink with_links
drop-inner g g1 g2 i e m q = rw (q, ne_eqb _ _ e, m)

pub drop-count : (g : Graph) (i : ℕ) → (drop_node g i).count ≡ g.count - 1
unfolding drop_node shrink relink moved
drop-count g i = cond_ind (eqb i (g.count - 1)) _ _ (λ h. h.count - 1 ≡ g.count - 1) (λ e. refl) (λ e. refl)

-- ---- a node that goes

pub record Goes (ls : List ℕ) (n i d : ℕ) : Type 0 where
  pub even : d % 2 ≡ 0
  pub low : d < 3
  pub first : get_or ls (i * 4 + d) 0 < n
  pub second : get_or ls (i * 4 + (d + 1)) 0 < n

only-first : (ls : List ℕ) (n i d e : ℕ) → only ls n i d e ≡ true → get_or ls (i * 4 + d) 0 < n
unfolding only
only-first ls n i d e h = ltb-true _ _ (and_left _ _ (and_left _ _ (and_left _ _ h)))

only-second : (ls : List ℕ) (n i d e : ℕ) → only ls n i d e ≡ true → get_or ls (i * 4 + (d + 1)) 0 < n
unfolding only
only-second ls n i d e h = ltb-true _ _ (and_right (ltb (get_or ls (i * 4 + d) 0) n) _ (and_left _ _ (and_left _ _ h)))

pub goes : (ls mk : List ℕ) (n i : ℕ) → (straight ls mk n i ≡ 4 → ⊥) → Goes ls n i (straight ls mk n i)
unfolding straight
goes ls mk n i = by (leb 16 (get_or mk i 0)) (only ls n i 0 2) (only ls n i 2 0) refl refl
  where
    by : (a b c : Bool) → only ls n i 0 2 ≡ b → only ls n i 2 0 ≡ c → (pick a b c ≡ 4 → ⊥) → Goes ls n i (pick a b c)
    by true b c eb ec h = absurd (h refl)
    by false true c eb ec h = record { even = refl; low = omega arith; first = only-first ls n i 0 2 eb; second = only-second ls n i 0 2 eb }
    by false false true eb ec h = record { even = refl; low = omega arith; first = only-first ls n i 2 0 ec; second = only-second ls n i 2 0 ec }
    by false false false eb ec h = absurd (h refl)

pub straight-most : (ls mk : List ℕ) (n i : ℕ) → straight ls mk n i ≤ 4
unfolding straight
straight-most ls mk n i = by (leb 16 (get_or mk i 0)) (only ls n i 0 2) (only ls n i 2 0)
  where
    by : (a b c : Bool) → pick a b c ≤ 4
    by true b c = omega arith
    by false true c = omega arith
    by false false true = omega arith
    by false false false = omega arith

pub goes_at : (ls mk : List ℕ) (n i d : ℕ) → (d ≡ straight ls mk n i) × (d < 4) → Goes ls n i d
goes_at ls mk n i d h = rw h.0 (goes ls mk n i (λ q. omega arith))

pub prune-stays : (g : Graph) (i : ℕ) → 4 ≤ straight g.links g.marks g.count i → g ≡ prune_at g i
unfolding prune_at prune_by
prune-stays g i h = let e : straight g.links g.marks g.count i ≡ 4 = omega (arith, straight-most g.links g.marks g.count i) in rw e

pub prune-goes : (g g' g'' : Graph) (i d a b : ℕ) → (d ≡ straight g.links g.marks g.count i) × (d < 4) → a ≡ onward g d i → b ≡ onward g (d + 1) i → g' ≡ link g (d + 1) a b → g'' ≡ drop_node g' i → g'' ≡ prune_at g i
unfolding prune_at prune_by join
prune-goes g g' g'' i d a b h ea eb q r =
    let f : (d ≡ 4 → ⊥) = λ z. omega arith in
    rw (r, q, ← h.0, ne_eqb _ _ f, ← ea, ← eb)

-- ---- the loop

pub record Pruning (g₀ : Graph) (n : ℕ) (g : Graph) (i : ℕ) : Type 0 where
  pub reached : i ≤ g.count
  pub rest : prune_from g i ≡ prune_from g₀ n

prune-more : (g : Graph) (i : ℕ) → 0 < i → prune_from g i ≡ prune_from (prune_at g (i - 1)) (i - 1)
unfolding prune_from
prune-more g zero h = absurd (omega arith)
prune-more g (suc i) h = let q : suc i - 1 ≡ i = omega arith in rw q

pub prune-on : {g₀ : Graph} {n : ℕ} {g : Graph} {i : ℕ} (v : Graph) → Pruning g₀ n g i → 0 < i → v ≡ prune_at g (i - 1) → v.count ≤ g.count → g.count ≤ v.count + 1 → Pruning g₀ n v (i - 1)
prune-on {g = g} {i = i} v p h e a b = record { reached = omega arith; rest = rw e (sym (prune-more g i h) ∙ p.rest) }

pub prune-done : {g₀ : Graph} {n : ℕ} {g : Graph} {i : ℕ} → Pruning g₀ n g i → i ≡ 0 → n ≡ g₀.count → g ≡ prune g₀
unfolding prune prune_from
prune-done {g = g} p e q = let r = p.rest in rw (e, q) at r

-- ---- pruning makes no node

drop-less : (g : Graph) (i : ℕ) → (drop_node g i).count ≤ g.count
unfolding drop_node shrink relink moved
drop-less g i = cond_ind (eqb i (g.count - 1)) _ _ (λ h. h.count - 1 ≤ g.count) (λ e. omega arith) (λ e. omega arith)

prune_at-less : (g : Graph) (i : ℕ) → (prune_at g i).count ≤ g.count
unfolding prune_at prune_by join link
prune_at-less g i = cond_ind (eqb (straight g.links g.marks g.count i) 4) _ _ (λ h. h.count ≤ g.count) (λ e. omega arith) (λ e. drop-less _ i)

prune_from-less : (g : Graph) (i : ℕ) → (prune_from g i).count ≤ g.count
unfolding prune_from
prune_from-less g zero = omega arith
prune_from-less g (suc i) = omega (arith, prune_from-less (prune_at g i) i, prune_at-less g i)

pub prune-less : (g : Graph) → (prune g).count ≤ g.count
unfolding prune
prune-less g = prune_from-less g g.count
