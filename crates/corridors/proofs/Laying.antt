-- The anchors of a run, of a row's runs, and of all rows.
use Rattle.std.proofs.Common.{◌≡◌, refl, sym, ap, ◌∙◌, Bool, true, false, cond, ◌<◌, ◌≤◌, ℕ, zero, suc, ◌+◌, ◌-◌, ◌/◌, ◌%◌, List, [], ◌∷◌, ◌++◌, length, get_or, take, drop, set, replicate, arith}
use Rattle.std.proofs.lemmas.List.{length-append, length-map, length-take-le, map-append, append-nil, append_assoc, replicate-append-replicate, get_or-set_other, get_or_past, drop-drop}
use borrow.Author.Tests.{ltb-true, ltb-false}
use lib.Dec.{ltb}
use lib.IntN.{ℤ}
use Rattle.fixed.specs.Up.{ups}
use Rattle.fixed.proofs.Lists.{length-ups}
use Rattle.fixed.specs.declared.Axis.{Axis}
use Rattle.fixed.specs.declared.Axis.TheVariants.{X, Y}
use Rattle.fixed.specs.declared.Anchor.{Anchor}
use Rattle.fixed.specs.Boxes.{across, directions_of, ignored_of}
use Rattle.fixed.specs.Steps.{middle}
use Rattle.corridors.specs.declared.row.Run.{Run}
use Rattle.corridors.specs.declared.row.Row.{Row}
use Rattle.corridors.specs.Sizes.{SPAN, ANCHORS, NONE}
use Rattle.corridors.specs.Grid.{Boxes, start, end, all_runs}
use Rattle.corridors.specs.Merge.{Table, Plan, has, swap_remove, take_out, yield, corridor, fold, row_corridors, corridors}
use Rattle.corridors.specs.Answer.{Inside}
use Rattle.corridors.specs.Lent.{run, table, taken, way, anchor, alongs, plan, Directed, Emit, Put}
use Rattle.corridors.proofs.Rows.{run-ends}
use Rattle.corridors.proofs.Folds.{Grows, fold-grows, Folding, fold-begin, fold_on, fold-full, fold_end}

-- ---- a coordinate

pub coord-off : (l : List ℤ) (i : ℕ) → length l ≤ i → 0 ≡ get_or (ups l) i 0
coord-off l i h = sym (get_or_past (ups l) i 0 (omega (arith, length-ups l)))

-- a step beyond any coordinate there is another
pub inside-any : (l : List ℤ) (k : ℕ) → Inside (length l) (ups l) → get_or (ups l) k 0 < 4294967295
inside-any l k s = by (ltb k (length l)) refl
  where
    by : (t : Bool) → ltb k (length l) ≡ t → get_or (ups l) k 0 < 4294967295
    by true e = s.inside k (ltb-true k (length l) e)
    by false e = omega (arith, coord-off l k (ltb-false k (length l) e))

-- ---- two anchors more

module _ (u v w : ℕ) where
  two-along : (a : Axis) (s : List Anchor) → alongs a (s ++ (anchor a u w ∷ anchor a v w ∷ [])) ≡ alongs a s ++ (u ∷ v ∷ [])
  two-along X s = map-append (λ (b : Anchor). b.x) s _
  two-along Y s = map-append (λ (b : Anchor). b.y) s _

  two-across : (a : Axis) (s : List Anchor) → alongs (across a) (s ++ (anchor a u w ∷ anchor a v w ∷ [])) ≡ alongs (across a) s ++ (w ∷ w ∷ [])
  two-across X s = map-append (λ (b : Anchor). b.y) s _
  two-across Y s = map-append (λ (b : Anchor). b.x) s _

  two-directed : (a : Axis) (s : List Anchor) → Directed a 2 s (s ++ (anchor a u w ∷ anchor a v w ∷ []))
  two-directed X s = record { directed = map-append (λ (b : Anchor). b.directions) s _; free = map-append (λ (b : Anchor). b.ignored) s _ }
  two-directed Y s = record { directed = map-append (λ (b : Anchor). b.directions) s _; free = map-append (λ (b : Anchor). b.ignored) s _ }

directed-none : (a : Axis) (s : List Anchor) → Directed a 0 s s
directed-none a s = record { directed = sym (append-nil _); free = sym (append-nil _) }

directed-on : (a : Axis) (m k n : ℕ) (s t u : List Anchor) → n ≡ m + k → Directed a m s t → Directed a k t u → Directed a n s u
directed-on a m k n s t u e d f =
    record { directed = both (directions_of s) (way a) d.directed f.directed; free = both (ignored_of s) NONE d.free f.free }
  where
    both : (l : List ℕ) (w : ℕ) {p q : List ℕ} → p ≡ l ++ replicate m w → q ≡ p ++ replicate k w → q ≡ l ++ replicate n w
    both l w g h = rw (h, g, append_assoc l (replicate m w) (replicate k w), replicate-append-replicate m k w, e)

length-alongs : (a : Axis) (s : List Anchor) → length (alongs a s) ≡ length s
length-alongs X s = length-map s (λ (b : Anchor). b.x)
length-alongs Y s = length-map s (λ (b : Anchor). b.y)

-- ---- a corridor

module _ (a : Axis) (xs ys : List ℕ) (n i j top : ℕ) (rows rows' : List Row) (c : ℕ) (s s' : List Anchor) (v : Run) (ev : run v ≡ get_or (get_or (table rows) i []) j 0) (et : taken top (table rows') ≡ take_out (run v) (i + 1) (n - (i + 1)) (table rows)) where
  laid : (t : List Anchor) → t ≡ take c s ++ (anchor a (get_or xs v.start 0 + 1) (middle (get_or ys i 0) (get_or ys top 0)) ∷ anchor a (get_or xs v.end 0 - 1) (middle (get_or ys i 0) (get_or ys top 0)) ∷ []) → plan a rows' t ≡ corridor xs ys n i j (plan a rows (take c s))
  unfolding corridor yield
  laid t e =
      let r = run-ends v in
      let p = two-along (get_or xs v.start 0 + 1) (get_or xs v.end 0 - 1) (middle (get_or ys i 0) (get_or ys top 0)) a (take c s) in
      let q = two-across (get_or xs v.start 0 + 1) (get_or xs v.end 0 - 1) (middle (get_or ys i 0) (get_or ys top 0)) a (take c s) in
      rw (← ev, ← et, r.0, r.1, e, p, q)

  pub corridor-laid : (r : ℕ) → Emit a c r s s' (get_or xs v.start 0 + 1) (get_or xs v.end 0 - 1) (middle (get_or ys i 0) (get_or ys top 0)) → Put a c r s s' rows' (corridor xs ys n i j (plan a rows (take c s)))
  corridor-laid r m =
      let e : r - c ≡ 2 = omega (arith, m.count) in
      record { least = omega (arith, m.count); most = m.most; same = laid (take r s') m.two; marks = rw (e, m.two) (two-directed _ _ _ a (take c s)); rest = m.rest }

pub corridor-full : (a : Axis) (xs ys : List ℕ) (n i j c : ℕ) (rows : List Row) (s : List Anchor) → c ≤ length s → ANCHORS < c + 2 → ANCHORS < length (corridor xs ys n i j (plan a rows (take c s))).along
unfolding corridor yield
corridor-full a xs ys n i j c rows s le h =
    omega (arith, length-append (alongs a (take c s)) ((get_or xs (start (get_or (get_or (table rows) i []) j 0)) 0 + 1) ∷ (get_or xs (end (get_or (get_or (table rows) i []) j 0)) 0 - 1) ∷ []), length-alongs a (take c s), length-take-le c s le)

-- ---- the row at hand stays

take-out-keeps : (v k m : ℕ) (t : Table) (i : ℕ) → i < k → get_or (take_out v k m t).rows i [] ≡ get_or t i []
unfolding take_out
take-out-keeps v k zero t i h = refl
take-out-keeps v k (suc m) t i h =
    by (has (get_or t k []) v) (take-out-keeps v (k + 1) m (set t k (swap_remove (get_or t k []) v)) i (omega arith))
  where
    by : (b : Bool) → get_or (take_out v (k + 1) m (set t k (swap_remove (get_or t k []) v))).rows i [] ≡ get_or (set t k (swap_remove (get_or t k []) v)) i [] → get_or (cond b (take_out v (k + 1) m (set t k (swap_remove (get_or t k []) v))) (taken k t)).rows i [] ≡ get_or t i []
    by true e = e ∙ get_or-set_other t k i (swap_remove (get_or t k []) v) [] (λ z. omega arith)
    by false e = refl

pub corridor-keeps : (xs ys : List ℕ) (n i j : ℕ) (p : Plan) → get_or (corridor xs ys n i j p).rows i [] ≡ get_or p.rows i []
unfolding corridor yield
corridor-keeps xs ys n i j p = take-out-keeps _ (i + 1) (n - (i + 1)) p.rows i (omega arith)

-- ---- anchors are only added

pub corridor-grows : (xs ys : List ℕ) (n i : ℕ) → Grows (corridor xs ys n i)
unfolding corridor yield
corridor-grows xs ys n i = record { grows = λ k p. omega (arith, length-append p.along ((get_or xs (get_or (get_or p.rows i []) k 0 / SPAN) 0 + 1) ∷ (get_or xs (get_or (get_or p.rows i []) k 0 % SPAN) 0 - 1) ∷ [])) }

pub row-grows : (xs ys : List ℕ) (n : ℕ) → Grows (row_corridors xs ys n)
unfolding row_corridors
row-grows xs ys n = record { grows = λ i p. fold-grows (corridor xs ys n i) 0 (length (get_or p.rows i [])) p (corridor-grows xs ys n i) }

-- ---- what stands behind

pub drop-later : (s t : List Anchor) (m r : ℕ) → m ≤ r → drop m s ≡ drop m t → drop r s ≡ drop r t
drop-later s t m r h e =
    let q : m + (r - m) ≡ r = omega arith in
    rw q at (sym (drop-drop (r - m) m s) ∙ ap (drop (r - m)) e ∙ drop-drop (r - m) m t)

-- ---- turn by turn: behind the first c anchors of s₀ others were laid, up to `made` of s, and the turns from k on are left

pub record Going (a : Axis) (f : ℕ → Plan → Plan) (n c : ℕ) (rows₀ rows : List Row) (s₀ s : List Anchor) (made k : ℕ) : Type 0 where
  pub folds : Folding f n (plan a rows₀ (take c s₀)) (plan a rows (take made s)) k
  pub least : c ≤ made
  pub most : made ≤ ANCHORS
  pub marks : Directed a (made - c) (take c s₀) (take made s)
  pub rest : drop made s ≡ drop made s₀

pub going-begin : (a : Axis) (f : ℕ → Plan → Plan) (n c : ℕ) (rows : List Row) (s : List Anchor) → c ≤ ANCHORS → Going a f n c rows rows s s c 0
going-begin a f n c rows s h =
    let e : c - c ≡ 0 = omega arith in
    record { folds = fold-begin f n _; least = omega arith; most = h; marks = rw e (directed-none a (take c s)); rest = refl }

module _ {a : Axis} {f : ℕ → Plan → Plan} {n c : ℕ} {rows₀ rows : List Row} {s₀ s : List Anchor} {made k : ℕ} (g : Going a f n c rows₀ rows s₀ s made k) where
  pub going-on : k < n → (r : ℕ) (s' : List Anchor) (rows' : List Row) → Put a made r s s' rows' (f k (plan a rows (take made s))) → Going a f n c rows₀ rows' s₀ s' r (k + 1)
  going-on h r s' rows' p =
      record { folds = fold_on g.folds h p.same; least = omega (arith, p.least, g.least); most = p.most; marks = directed-on a (made - c) (r - made) (r - c) _ _ _ (omega (arith, p.least, g.least)) g.marks p.marks; rest = p.rest ∙ drop-later s s₀ made r p.least g.rest }

  pub going-full : Grows f → k < n → ANCHORS < length (f k (plan a rows (take made s))).along → ANCHORS < length (fold f 0 n (plan a rows₀ (take c s₀))).along
  going-full w h l = fold-full g.folds ANCHORS w h l

  pub going-end : n ≤ k → Put a c made s₀ s rows (fold f 0 n (plan a rows₀ (take c s₀)))
  going-end h = record { least = g.least; most = g.most; same = fold_end g.folds h; marks = g.marks; rest = g.rest }

-- ---- a row's runs as a fold over their count

pub row-of : (xs ys : List ℕ) (n i c : ℕ) (p : Plan) → length (get_or p.rows i []) ≡ c → fold (corridor xs ys n i) 0 c p ≡ row_corridors xs ys n i p
unfolding row_corridors
row-of xs ys n i c p e = rw e

pub whole : (b : Boxes) (xs ys : List ℕ) (n : ℕ) (t : Table) (a c : List ℕ) → n ≡ length ys - 1 → t ≡ all_runs b xs ys 0 n → fold (row_corridors xs ys n) 0 n (record { rows = t; along = a; across = c }) ≡ corridors b xs ys a c
unfolding corridors
whole b xs ys n t a c e q = rw (q, e)

-- the coordinates are lent
pub whole-lent : (b : Boxes) (xs : List ℕ) (ys : List ℤ) (n : ℕ) (t : Table) (a c : List ℕ) → n ≡ length ys - 1 → t ≡ all_runs b xs (ups ys) 0 n → fold (row_corridors xs (ups ys) n) 0 n (record { rows = t; along = a; across = c }) ≡ corridors b xs (ups ys) a c
whole-lent b xs ys n t a c e q = whole b xs (ups ys) n t a c (omega (arith, length-ups ys)) q

pub ruleset going = (row-grows, going-full, going-end)

pub ruleset whole_plan = (whole-lent)
