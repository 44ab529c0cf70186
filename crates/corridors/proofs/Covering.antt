-- Marks of the cells that boxes fill, box by box, and the runs that they give.
use Rattle.std.proofs.Common.{◌≡◌, refl, ap, ◌∙◌, Bool, true, false, ◌&&◌, ◌||◌, ◌<◌, ◌≤◌, ℕ, zero, suc, ◌+◌, ◌-◌, List, length, get_or, replicate, arith, add-one}
use Rattle.std.proofs.lemmas.List.{get_or-replicate, length-replicate}
use lib.Dec.{ltb, leb}
use lib.IntN.{ℤ}
use Rattle.fixed.specs.Up.{ups}
use Rattle.fixed.specs.declared.Axis.{Axis}
use Rattle.fixed.specs.declared.PaddedBox.{PaddedBox}
use Rattle.fixed.specs.Boxes.{across, least, greatest}
use Rattle.fixed.proofs.Boxes.{leasts-at, greatests-at}
use Rattle.fixed.proofs.Lists.{length-ups}
use Rattle.corridors.specs.Grid.{Boxes, seen, covers, covered, filled, with_cell, runs, row_runs}
use Rattle.corridors.specs.Lent.{MarkedSpan, MarkedRow, listed}

-- ---- box by box

pub row-begin : (b : Boxes) (y : ℕ) (xs : List ℕ) (l : List Bool) (n : ℕ) → l ≡ replicate n false → MarkedRow b y 0 xs l
unfolding covered
row-begin b y xs l n e = record { cell = λ k h. rw e (get_or-replicate n k false false (omega (arith, ap length e, length-replicate n false))) }

-- the box j crosses the row, or does not
module _ (along : Axis) (bs : List PaddedBox) (y j : ℕ) (d : PaddedBox) (xs : List ℕ) (l : List Bool) (h : j < length bs) (r : MarkedRow (seen along bs) y j xs l) where
  covers-is : (x : ℕ) → covers (seen along bs) x y j ≡ (leb (least along (get_or bs j d)) x && ltb x (greatest along (get_or bs j d))) && (leb (least (across along) (get_or bs j d)) y && ltb y (greatest (across along) (get_or bs j d)))
  unfolding covers
  covers-is x = rw (leasts-at bs along j d h, greatests-at bs along j d h, leasts-at bs (across along) j d h, greatests-at bs (across along) j d h)

  pub row-over : (leb (least (across along) (get_or bs j d)) y && ltb y (greatest (across along) (get_or bs j d))) ≡ false → MarkedRow (seen along bs) y (j + 1) xs l
  unfolding covered
  row-over e = record { cell = λ k lt. rw (add-one j, covers-is (get_or xs k 0), e) (r.cell k lt ∙ none _ _) }
    where
      none : (p q : Bool) → p ≡ p || (q && false)
      none true q = refl
      none false true = refl
      none false false = refl

  pub row-on : (o : List Bool) → length o ≡ length l → (leb (least (across along) (get_or bs j d)) y && ltb y (greatest (across along) (get_or bs j d))) ≡ true → MarkedSpan (least along (get_or bs j d)) (greatest along (get_or bs j d)) xs l o → MarkedRow (seen along bs) y (j + 1) xs o
  unfolding covered
  row-on o n e s = record { cell = λ k lt. rw (add-one j, covers-is (get_or xs k 0), e, ← r.cell k (omega arith), some _) (s k (omega arith)) }
    where
      some : (q : Bool) → (q && true) ≡ q
      some true = refl
      some false = refl

-- ---- the runs that marks give

listed-is : (b : Boxes) (xs : List ℕ) (y m : ℕ) (l : List Bool) → m ≤ length l → MarkedRow b y b.count xs l → listed l m ≡ runs b xs y m
unfolding listed runs with_cell filled
listed-is b xs y zero l h r = refl
listed-is b xs y (suc m) l h r = rw (r.cell m (omega arith), listed-is b xs y m l (omega arith) r)

runs-listed : (b : Boxes) (xs : List ℕ) (y m : ℕ) (l : List Bool) → length l ≡ m → MarkedRow b y b.count xs l → listed l (length l) ≡ runs b xs y m
runs-listed b xs y m l e r = rw e (listed-is b xs y m l (omega arith) r)

pub row-listed : (b : Boxes) (xs ys : List ℕ) (i : ℕ) (l : List Bool) → length l ≡ length xs - 1 → MarkedRow b (get_or ys i 0) b.count xs l → listed l (length l) ≡ row_runs b xs ys i
unfolding row_runs
row-listed b xs ys i l e r = runs-listed b xs (get_or ys i 0) (length xs - 1) l e r

-- the coordinates are lent
pub lent-listed : (b : Boxes) (xs : List ℤ) (ys : List ℕ) (i : ℕ) (l : List Bool) → length l ≡ length xs - 1 → MarkedRow b (get_or ys i 0) b.count (ups xs) l → listed l (length l) ≡ row_runs b (ups xs) ys i
lent-listed b xs ys i l e r = row-listed b (ups xs) ys i l (omega (arith, length-ups xs)) r

pub ruleset marking = (row-begin, row-over, row-on)

pub ruleset marked = (lent-listed)
