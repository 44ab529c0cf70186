-- The graph in a `Graph` of the code.
--     link_is, links-set, links-push    a link read, one stored, and the links of one node more
--     stood, aimed, marked, linked-by, and `-whole` of them    what `put_place`, `put_link`, `put_mark` and `link_both` make
--     placed_met, placed-new    what `place` makes
use mathlib.Core.Path.{◌≡◌, refl, sym, ap, subst, ◌∙◌}
use mathlib.Core.List.{List, [], ◌∷◌, ◌++◌}
use Prim.Native.Nat.{ℕ, zero, suc, ◌+◌, ◌*◌, ◌<◌, ◌≤◌}
use native.Mathlib.Omega.{arith}
use borrow.Author.Tests.{lt-ltb, le-ltb}
use lib.Bits.{bit_or}
use lib.IntN.{ℤ}
use lib.ListN.{length, get_or, take, set}
use lib.Seq.{get_or-take}
use Rattle.std.proofs.lemmas.List.{length-take}
use Rattle.std.specs.List.{flat_map}
use Rattle.std.proofs.lemmas.Grind.{flat_map-append}
use Rattle.fixed.specs.Up.{ups}
use Rattle.fixed.proofs.Lists.{length-ups}
use Rattle.nodes.specs.declared.Graph.{Graph as Store}
use Rattle.nodes.specs.Graph.{Graph, NODES, none, opposite, find, stand, aim, mark_as, remark, push, place, linked, link}
use Rattle.nodes.specs.Columns.{four_of, links_of, graph_of, whole_of}
use Rattle.nodes.proofs.Nodes.{take-set, snoc-at}
use Rattle.nodes.proofs.Sound.{four}

-- ---- the links, four a node

pub link_at : (ls : List (List ℕ)) (i d : ℕ) → d < 4 → get_or (links_of ls) (i * 4 + d) 0 ≡ get_or (get_or ls i []) d 0
unfolding links_of
link_at [] i d h = refl
link_at (l ∷ ls) zero d h =
    let e : 0 * 4 + d ≡ d = omega arith in
    rw e (four (λ k. get_or (links_of (l ∷ ls)) k 0 ≡ get_or l k 0) refl refl refl refl d h)
link_at (l ∷ ls) (suc i) d h =
    let e : suc i * 4 + d ≡ suc (suc (suc (suc (i * 4 + d)))) = omega arith in
    rw e (link_at ls i d h)

pub link_is : (n : ℕ) (ls : List (List ℕ)) (i d : ℕ) → i < n → d < 4 → get_or (links_of (take n ls)) (i * 4 + d) 0 ≡ get_or (get_or ls i []) d 0
link_is n ls i d h b = link_at (take n ls) i d b ∙ rw (get_or-take n ls i [] h)

fours_set : (l : List ℕ) (d v : ℕ) → length l ≡ 4 → d < 4 → four_of (set l d v) ≡ set (four_of l) d v
fours_set [] d v e h = absurd (omega arith)
fours_set (a ∷ []) d v e h = absurd (omega arith)
fours_set (a ∷ b ∷ []) d v e h = absurd (omega arith)
fours_set (a ∷ b ∷ c ∷ []) d v e h = absurd (omega arith)
fours_set (a ∷ b ∷ c ∷ f ∷ l) d v e h =
    four (λ k. four_of (set (a ∷ b ∷ c ∷ f ∷ l) k v) ≡ set (a ∷ b ∷ c ∷ f ∷ []) k v) refl refl refl refl d h

-- l is the node i's, if there is one
set_at : (ls : List (List ℕ)) (i d v : ℕ) (l : List ℕ) → d < 4 → length l ≡ 4 → (i < length ls → get_or ls i [] ≡ l) → links_of (set ls i (set l d v)) ≡ set (links_of ls) (i * 4 + d) v
unfolding links_of
set_at [] i d v l h b e = refl
set_at (a ∷ ls) zero d v l h b e =
    let z : 0 * 4 + d ≡ d = omega arith in
    let first = ap (λ (f : List ℕ). f ++ flat_map four_of ls) (fours_set l d v b h) in
    let all = four (λ k. set (four_of l) k v ++ flat_map four_of ls ≡ set (flat_map four_of (l ∷ ls)) k v) refl refl refl refl d h in
    rw z (subst (λ (m : List ℕ). four_of (set l d v) ++ flat_map four_of ls ≡ set (flat_map four_of (m ∷ ls)) d v) (sym (e (omega arith))) (first ∙ all))
set_at (a ∷ ls) (suc i) d v l h b e =
    let z : suc i * 4 + d ≡ suc (suc (suc (suc (i * 4 + d)))) = omega arith in
    rw (z, set_at ls i d v l h b (λ q. e (omega arith)))

pub links-put : (ls : List (List ℕ)) (i d v : ℕ) → d < 4 → length (get_or ls i []) ≡ 4 → links_of (set ls i (set (get_or ls i []) d v)) ≡ set (links_of ls) (i * 4 + d) v
links-put ls i d v h k = set_at ls i d v (get_or ls i []) h k (λ q. refl)

pub links-set : (n : ℕ) (ls : List (List ℕ)) (i d v : ℕ) → d < 4 → length (get_or ls i []) ≡ 4
    → links_of (take n (set ls i (set (get_or ls i []) d v))) ≡ set (links_of (take n ls)) (i * 4 + d) v
links-set n ls i d v h k =
    rw (take-set n ls i (set (get_or ls i []) d v)) (set_at (take n ls) i d v (get_or ls i []) h k (λ q. get_or-take n ls i [] (omega (arith, length-take n ls))))

links-push : (n : ℕ) (ls : List (List ℕ)) (l : List ℕ) → n < length ls → links_of (take (n + 1) (set ls n l)) ≡ links_of (take n ls) ++ four_of l
unfolding links_of
links-push n ls l h = rw (snoc-at ls n (n + 1) l refl h) (flat_map-append four_of (take n ls) (l ∷ []))

-- ---- a place, a link, a mark stored

module _ (s : Store) (i x y : ℕ) (xs ys : List ℤ) (new-x : ups xs ≡ set (ups s.xs) i x) (new-y : ups ys ≡ set (ups s.ys) i y) where
  pub stood : record { count = s.count; xs = take s.count (ups xs); ys = take s.count (ups ys); links = links_of (take s.count s.links); marks = take s.count s.marks } ≡ stand (graph_of s) i x y
  unfolding stand
  stood = rw (new-x, new-y, take-set s.count (ups s.xs) i x, take-set s.count (ups s.ys) i y)

  pub stood-whole : record { count = NODES; xs = ups xs; ys = ups ys; links = links_of s.links; marks = s.marks } ≡ stand (whole_of s) i x y
  unfolding stand
  stood-whole = rw (new-x, new-y)

pub marked : (s : Store) (i m : ℕ)
    → record { count = s.count; xs = take s.count (ups s.xs); ys = take s.count (ups s.ys); links = links_of (take s.count s.links); marks = take s.count (set s.marks i m) } ≡ mark_as (graph_of s) i m
unfolding mark_as
marked s i m = rw (take-set s.count s.marks i m)

pub marked-whole : (s : Store) (i m : ℕ) → record { count = NODES; xs = ups s.xs; ys = ups s.ys; links = links_of s.links; marks = set s.marks i m } ≡ mark_as (whole_of s) i m
unfolding mark_as
marked-whole s i m = refl

pub aimed : (s : Store) (i d v : ℕ) → d < 4 → length (get_or s.links i []) ≡ 4
    → record {
      count = s.count;
      xs = take s.count (ups s.xs);
      ys = take s.count (ups s.ys);
      links = links_of (take s.count (set s.links i (set (get_or s.links i []) d v)));
      marks = take s.count s.marks;
    } ≡ aim (graph_of s) (i * 4 + d) v
unfolding aim
aimed s i d v b k = rw (links-set s.count s.links i d v b k)

pub aimed_whole : (s : Store) (i d v : ℕ) → d < 4 → length (get_or s.links i []) ≡ 4
    → record { count = NODES; xs = ups s.xs; ys = ups s.ys; links = links_of (set s.links i (set (get_or s.links i []) d v)); marks = s.marks } ≡ aim (whole_of s) (i * 4 + d) v
unfolding aim
aimed_whole s i d v b k = rw (links-put s.links i d v b k)

pub linked-by : (g g' g'' : Graph) (d i j : ℕ) → g' ≡ aim g (i * 4 + d) j → g'' ≡ aim g' (j * 4 + opposite d) i → g'' ≡ link g d i j
unfolding link linked aim
linked-by g g' g'' d i j e f = rw (f, e)

-- ---- a node met or made

module _ (s : Store) (x y m : ℕ) where
  pub placed_met : (i : ℕ) → i ≡ find (graph_of s) x y → i < s.count
      → record {
        count = s.count;
        xs = take s.count (ups s.xs);
        ys = take s.count (ups s.ys);
        links = links_of (take s.count s.links);
        marks = take s.count (set s.marks i (bit_or (get_or s.marks i 0) m));
      } ≡ place (graph_of s) x y m
  unfolding place remark mark_as
  placed_met i e h =
      rw (← e, lt-ltb i s.count h, take-set s.count s.marks i (bit_or (get_or s.marks i 0) m), get_or-take s.count s.marks i 0 h)

  module _ (h : s.count ≤ find (graph_of s) x y) where
    pub placed-new : (xs ys : List ℤ) → ups xs ≡ set (ups s.xs) s.count x → ups ys ≡ set (ups s.ys) s.count y
        → s.count < length s.xs → s.count < length s.ys → s.count < length s.links → s.count < length s.marks
        → record {
          count = s.count + 1;
          xs = take (s.count + 1) (ups xs);
          ys = take (s.count + 1) (ups ys);
          links = links_of (take (s.count + 1) (set s.links s.count (none ∷ none ∷ none ∷ none ∷ [])));
          marks = take (s.count + 1) (set s.marks s.count m);
        } ≡ place (graph_of s) x y m
    unfolding place push
    placed-new xs ys ex ey a b c d =
        let at-x = snoc-at (ups s.xs) s.count (s.count + 1) x refl (rw length-ups a) in
        let at-y = snoc-at (ups s.ys) s.count (s.count + 1) y refl (rw length-ups b) in
        let at-links = links-push s.count s.links (none ∷ none ∷ none ∷ none ∷ []) c in
        rw (le-ltb _ s.count h, ex, ey, at-x, at-y, at-links, snoc-at s.marks s.count (s.count + 1) m refl d)

    pub full-new : (place (graph_of s) x y m).count ≡ s.count + 1
    unfolding place push
    full-new = rw (le-ltb _ s.count h)
