-- Rows, then columns.
use Rattle.std.proofs.Common.{◌≡◌, refl, sym, ap, ◌∙◌, cond, ◌<◌, ◌≤◌, ℕ, zero, suc, ◌+◌, ◌-◌, ◌/◌, ◌%◌, List, [], ◌∷◌, ◌++◌, length, get_or, take, drop, replicate, Option, None, Some, arith, add-one}
use Rattle.std.proofs.lemmas.List.{length-append, length-map, length-take-le, append_assoc, append-nil, replicate_more, replicate-append-replicate, drop-append-le, take-append-drop}
use borrow.Author.Tests.{lt-ltb, le-ltb}
use lib.Dec.{ltb}
use lib.IntN.{ℤ}
use Rattle.fixed.specs.Up.{ups}
use Rattle.fixed.specs.declared.Axis.TheVariants.{X, Y}
use Rattle.fixed.specs.declared.Anchor.{Anchor}
use Rattle.fixed.specs.declared.PaddedBox.{PaddedBox}
use Rattle.fixed.specs.Boxes.{anchor_xs, anchor_ys, directions_of, ignored_of}
use Rattle.fixed.specs.Steps.{middle}
use Rattle.fixed.proofs.Lists.{length-ups, ups-take}
use Rattle.axis.specs.Axis.{edges}
use Rattle.axis.proofs.Axis.{edges-below}
use Rattle.corridors.specs.declared.row.Row.{Row}
use Rattle.corridors.specs.Sizes as Sizes
use Rattle.corridors.specs.Sizes.{SPAN, ANCHORS, NONE}
use Rattle.corridors.specs.Grid.{Boxes, stacked}
use Rattle.corridors.specs.Merge.{Taken, Plan, Anchors, yield, corridor, fold, row_corridors, corridors, crossed, implicit, turned, directions}
use Rattle.corridors.specs.Answer.{Inside, Given, Answered, Kept}
use Rattle.corridors.specs.Lent.{Put, Laid}
use Rattle.corridors.proofs.Folds.{fold-grows}
use Rattle.corridors.proofs.Laying.{row-grows, drop-later}

-- as many across as along
record Level (f : ℕ → Plan → Plan) : Type 0 where
  level : (k : ℕ) (p : Plan) → length p.across ≡ length p.along → length (f k p).across ≡ length (f k p).along

fold-level : (f : ℕ → Plan → Plan) (k m : ℕ) (p : Plan) → Level f → length p.across ≡ length p.along → length (fold f k m p).across ≡ length (fold f k m p).along
unfolding fold
fold-level f k zero p w e = e
fold-level f k (suc m) p w e = fold-level f (k + 1) m (f k p) w (w.level k p e)

yield-level : (xs ys : List ℕ) (i v : ℕ) (t : Taken) (p : Plan) → length p.across ≡ length p.along → length (yield xs ys i v t p).across ≡ length (yield xs ys i v t p).along
unfolding yield
yield-level xs ys i v t p e =
    let a = length-append p.along ((get_or xs (v / SPAN) 0 + 1) ∷ (get_or xs (v % SPAN) 0 - 1) ∷ []) in
    let b = length-append p.across (middle (get_or ys i 0) (get_or ys t.next 0) ∷ middle (get_or ys i 0) (get_or ys t.next 0) ∷ []) in
    omega arith

corridor-level : (xs ys : List ℕ) (n i : ℕ) → Level (corridor xs ys n i)
unfolding corridor
corridor-level xs ys n i = record { level = λ k p e. yield-level xs ys i _ _ p e }

row-level : (xs ys : List ℕ) (n : ℕ) → Level (row_corridors xs ys n)
unfolding row_corridors
row-level xs ys n = record { level = λ i p e. fold-level (corridor xs ys n i) 0 _ p (corridor-level xs ys n i) e }

corridors-level : (b : Boxes) (xs ys a c : List ℕ) → length c ≡ length a → length (corridors b xs ys a c).across ≡ length (corridors b xs ys a c).along
unfolding corridors
corridors-level b xs ys a c e = fold-level _ 0 _ _ (row-level xs ys (length ys - 1)) e

corridors-grow : (b : Boxes) (xs ys a c : List ℕ) → length a ≤ length (corridors b xs ys a c).along
unfolding corridors
corridors-grow b xs ys a c = fold-grows _ 0 _ _ (row-grows xs ys (length ys - 1))

-- the places' two columns are equally long, and the rows' anchors are a part of them
pub implicit-level : (h v : Boxes) (xs ys : List ℕ) → length (implicit h v xs ys).xs ≡ length (implicit h v xs ys).ys
unfolding implicit crossed
implicit-level h v xs ys = corridors-level v ys xs _ _ (sym (corridors-level h xs ys [] [] refl))

pub level_within : (h v : Boxes) (xs ys : List ℕ) → (implicit h v xs ys).level ≤ length (implicit h v xs ys).ys
unfolding implicit crossed
level_within h v xs ys =
    omega (arith, corridors-level h xs ys [] [] refl, corridors-grow v ys xs (corridors h xs ys [] []).across (corridors h xs ys [] []).along)

-- ---- the directions

one-more : (n w : ℕ) → replicate n w ++ (w ∷ []) ≡ replicate (suc n) w
one-more n w = replicate_more n w ∙ ap (λ (m : ℕ). replicate m w) (add-one n)

dirs-low : (level k : ℕ) → k ≤ level → directions level k ≡ replicate k Sizes.X
unfolding directions
dirs-low level zero h = refl
dirs-low level (suc k) h =
    rw (dirs-low level k (omega arith), lt-ltb k level (omega arith)) (one-more k Sizes.X)

dirs-more : (level k : ℕ) → directions level (suc k) ≡ directions level k ++ (cond (ltb k level) Sizes.X Sizes.Y ∷ [])
unfolding directions
dirs-more level k = refl

dirs-high : (level d : ℕ) → directions level (level + d) ≡ replicate level Sizes.X ++ replicate d Sizes.Y
dirs-high level zero =
    let e : level + 0 ≡ level = omega arith in rw (e, append-nil (replicate level Sizes.X)) (dirs-low level level (omega arith))
dirs-high level (suc d) = rw (add-suc' level d, dirs-more level (level + d), dirs-high level d, le-ltb (level + d) level (omega arith), append_assoc (replicate level Sizes.X) (replicate d Sizes.Y) (Sizes.Y ∷ [])) (ap (λ (l : List ℕ). replicate level Sizes.X ++ l) (one-more d Sizes.Y))
  where
    add-suc' : (m n : ℕ) → m + suc n ≡ suc (m + n)
    add-suc' m n = omega arith

dirs : (level k : ℕ) → level ≤ k → replicate level Sizes.X ++ replicate (k - level) Sizes.Y ≡ directions level k
dirs level k h = let e : level + (k - level) ≡ k = omega arith in sym (rw e at (dirs-high level (k - level)))

-- ---- what both axes give

first-full : (h v : Boxes) (xs ys : List ℕ) → ANCHORS < length (corridors h xs ys [] []).along → ANCHORS < length (implicit h v xs ys).xs
unfolding implicit crossed
first-full h v xs ys l =
    omega (arith, corridors-level h xs ys [] [] refl, corridors-level v ys xs _ _ (sym (corridors-level h xs ys [] [] refl)), corridors-grow v ys xs (corridors h xs ys [] []).across (corridors h xs ys [] []).along)

module _ (bs : List PaddedBox) (xs ys : List ℕ) (r : ℕ) (s s1 : List Anchor) (rows1 : List Row) (p : Put X 0 r s s1 rows1 (corridors (stacked bs) xs ys [] [])) (long1 : ANCHORS ≤ length s1) where
  along : anchor_xs (take r s1) ≡ (corridors (stacked bs) xs ys [] []).along
  along = ap (λ (q : Plan). q.along) p.same

  across : anchor_ys (take r s1) ≡ (corridors (stacked bs) xs ys [] []).across
  across = ap (λ (q : Plan). q.across) p.same

  long : length (anchor_xs (take r s1)) ≡ r
  long = length-map (take r s1) (λ (a : Anchor). a.x) ∙ length-take-le r s1 (omega (arith, p.most))

  second-full : ANCHORS < length (corridors (turned (stacked bs)) ys xs (anchor_ys (take r s1)) (anchor_xs (take r s1))).along → ANCHORS < length (implicit (stacked bs) (turned (stacked bs)) xs ys).xs
  unfolding implicit crossed
  second-full l =
      rw (← along, ← across) (omega (arith, corridors-level (turned (stacked bs)) ys xs (anchor_ys (take r s1)) (anchor_xs (take r s1)) (rw (along, across) (sym (corridors-level (stacked bs) xs ys [] [] refl)))))

  given : (k : ℕ) (s2 : List Anchor) (rows2 : List Row) → ANCHORS ≤ length s2 → Put Y r k s1 s2 rows2 (corridors (turned (stacked bs)) ys xs (anchor_ys (take r s1)) (anchor_xs (take r s1))) → Given k s2 (implicit (stacked bs) (turned (stacked bs)) xs ys)
  unfolding implicit crossed
  given k s2 rows2 long2 q =
      let x : anchor_xs (take k s2) ≡ (corridors (turned (stacked bs)) ys xs (anchor_ys (take r s1)) (anchor_xs (take r s1))).across = ap (λ (g : Plan). g.across) q.same in
      let y : anchor_ys (take k s2) ≡ (corridors (turned (stacked bs)) ys xs (anchor_ys (take r s1)) (anchor_xs (take r s1))).along = ap (λ (g : Plan). g.along) q.same in
      let n : length (anchor_xs (take k s2)) ≡ k = length-map (take k s2) (λ (a : Anchor). a.x) ∙ length-take-le k s2 (omega (arith, q.most)) in
      let z : r - 0 ≡ r = omega arith in
      let d : directions_of (take k s2) ≡ replicate r Sizes.X ++ replicate (k - r) Sizes.Y = q.marks.directed ∙ ap (λ (l : List ℕ). l ++ replicate (k - r) Sizes.Y) (p.marks.directed ∙ rw z) in
      let f : ignored_of (take k s2) ≡ replicate r NONE ++ replicate (k - r) NONE = q.marks.free ∙ ap (λ (l : List ℕ). l ++ replicate (k - r) NONE) (p.marks.free ∙ rw z) in
      let w : r + (k - r) ≡ k = omega (arith, q.least) in
      rw (← along, ← across) (record { few = q.most; count = sym n ∙ ap length x; place_x = x; place_y = y; directed = d ∙ (rw long (dirs r k q.least)); free = f ∙ replicate-append-replicate r (k - r) NONE ∙ ap (λ (m : ℕ). replicate m NONE) w })

  pub answered : (o : Option ℕ) (s2 : List Anchor) (rows2 : List Row) → ANCHORS ≤ length s2 → Laid Y r o s1 s2 rows2 (corridors (turned (stacked bs)) ys xs (anchor_ys (take r s1)) (anchor_xs (take r s1))) → Answered o s2 (implicit (stacked bs) (turned (stacked bs)) xs ys)
  answered None s2 rows2 h l = second-full l
  answered (Some k) s2 rows2 h l = given k s2 rows2 h l

  pub rest-kept : (o : Option ℕ) (s2 : List Anchor) (rows2 : List Row) (g : Plan) → Laid Y r o s1 s2 rows2 g → Kept o s s2
  rest-kept None s2 rows2 g l k e = cc
  rest-kept (Some r2) s2 rows2 g l k e =
      let z : r2 ≡ k = cc in rw z at (l.rest ∙ drop-later s1 s r r2 l.least p.rest)

pub answered-full : (bs : List PaddedBox) (xs ys : List ℕ) (s : List Anchor) → ANCHORS < length (corridors (stacked bs) xs ys [] []).along → Answered None s (implicit (stacked bs) (turned (stacked bs)) xs ys)
answered-full bs xs ys s l = first-full (stacked bs) (turned (stacked bs)) xs ys l

-- ---- the axis lists

pub axis-inside : (a b : List ℕ) (n : ℕ) (l : List ℕ) → l ≡ edges a b n → Inside n a → Inside n b → Inside (length l) l
axis-inside a b n l e ia ib = rw e (record { inside = edges-below 4294967295 a b n ia.inside ib.inside })

-- the lent list, of which the first k are the edges
module _ (a b : List ℕ) (n k : ℕ) (l : List ℤ) (e : take k (ups l) ≡ edges a b n) where
  pub lent-edges : ups (take k l) ≡ edges a b n
  lent-edges = ups-take k l ∙ e

  pub lent-inside : Inside n a → Inside n b → Inside (length (take k l)) (ups (take k l))
  lent-inside ia ib = rw length-ups at (axis-inside a b n (ups (take k l)) lent-edges ia ib)

-- ---- the part that is handed on

-- the first ANCHORS of s became t
pub part-kept : (o : Option ℕ) (s t : List Anchor) (a : Anchors) → ANCHORS ≤ length s → length t ≡ length (take ANCHORS s) → Answered o t a → Kept o (take ANCHORS s) t → Kept o s (t ++ drop ANCHORS s)
part-kept None s t a h n w f k e = cc
part-kept (Some r) s t a h n w f k e =
    let z : r ≡ k = cc in
    let m : length (take ANCHORS s) ≡ ANCHORS = length-take-le ANCHORS s h in
    let b : k ≤ ANCHORS = omega (arith, w.few) in
    drop-append-le k t (drop ANCHORS s) (omega arith) ∙ ap (λ (l : List Anchor). l ++ drop ANCHORS s) (f k e) ∙ sym (drop-append-le k (take ANCHORS s) (drop ANCHORS s) (omega arith)) ∙ ap (drop k) (take-append-drop ANCHORS s)
