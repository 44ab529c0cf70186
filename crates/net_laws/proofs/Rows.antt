-- The first j rows of a list of junctions: what is said of them row by row is what is said of the list of them, and one row more.
use mathlib.Core.Path.{◌≡◌, ◌∙◌}
use mathlib.Core.List.{List}
use mathlib.Core.Logic.{◌⊎◌}
use Prim.Native.Nat.{ℕ, ◌+◌, ◌*◌, ◌<◌, ◌≤◌}
use native.Mathlib.Decide.{ℕ_discrete}
use native.Mathlib.Omega.{arith}
use lib.ListN.{length, get_or, set, take, length-set}
use lib.Seq.{get_or-set_same, get_or-set_other, get_or-take, length-take-le}
use lib.Dec.{eqb}
use Rattle.vertex.specs.Pages.{rows, holder, joiner, corner, kind_at, carried, Joined, Ended}
use Rattle.vertex.specs.declared.VertexKind.TheVariants.{WireEnd}
use Rattle.wire.specs.Ends.{CORNER, LINE}
use Rattle.routing.specs.Branches.{put_junction}
use Rattle.net_laws.specs.Good.{Lettered}

-- of n vertices of the kinds K
pub record Rows (n : ℕ) (K R : List ℕ) (j : ℕ) : Type 0 where
  pub after : (i : ℕ) → i < j → holder R i + 1 < joiner R i
  pub inside : (i : ℕ) → i < j → joiner R i < n
  pub joins : (i : ℕ) → i < j → kind_at K (joiner R i) ≡ WireEnd (carried (corner R i))
  pub letter : (i : ℕ) → i < j → (get_or R (3 * i + 2) 0 ≡ CORNER) ⊎ (get_or R (3 * i + 2) 0 ≡ LINE)

module _ (n : ℕ) (K R : List ℕ) (j : ℕ) (h : 3 * j ≤ length R) where
  rows_is : rows (take (3 * j) R) ≡ j
  rows_is = let e = length-take-le (3 * j) R h in rw e (omega arith)

  holder-is : (i : ℕ) → i < j → holder (take (3 * j) R) i ≡ holder R i
  holder-is i l = get_or-take (3 * j) R (3 * i) 0 (omega arith)

  joiner-is : (i : ℕ) → i < j → joiner (take (3 * j) R) i ≡ joiner R i
  joiner-is i l = get_or-take (3 * j) R (3 * i + 1) 0 (omega arith)

  kind_is : (i : ℕ) → i < j → get_or (take (3 * j) R) (3 * i + 2) 0 ≡ get_or R (3 * i + 2) 0
  kind_is i l = get_or-take (3 * j) R (3 * i + 2) 0 (omega arith)

  in_rows : (i : ℕ) → i < rows (take (3 * j) R) → i < j
  in_rows i l = omega (arith, rows_is)

  pub rows-joined : Rows n K R j → Joined n (take (3 * j) R)
  rows-joined S =
      record {
        after = λ i l. let k = in_rows i l in rw (holder-is i k, joiner-is i k) (S.after i k);
        inside = λ i l. let k = in_rows i l in rw (joiner-is i k) (S.inside i k);
      }

  pub rows-ended : Rows n K R j → Ended K (take (3 * j) R)
  rows-ended S = record { joins = λ i l. let k = in_rows i l in rw (joiner-is i k, kind_is i k) (S.joins i k) }

  pub rows-lettered : Rows n K R j → Lettered (take (3 * j) R)
  rows-lettered S = record { letter = λ i l. let k = in_rows i l in rw (kind_is i k) (S.letter i k) }

  pub rows_of : Joined n (take (3 * j) R) → Ended K (take (3 * j) R) → Lettered (take (3 * j) R) → Rows n K R j
  rows_of A B D =
      record {
        after = λ i k. rw (holder-is i k, joiner-is i k) at (A.after i (omega (arith, rows_is)));
        inside = λ i k. rw (joiner-is i k) at (A.inside i (omega (arith, rows_is)));
        joins = λ i k. rw (joiner-is i k, kind_is i k) at (B.joins i (omega (arith, rows_is)));
        letter = λ i k. rw (kind_is i k) at (D.letter i (omega (arith, rows_is)));
      }

-- ---- one row more

module _ (R : List ℕ) (j v e k : ℕ) where
  pub put-length : length (put_junction R j v e k) ≡ length R
  unfolding put_junction
  put-length = simp length-set

  pub put_other : (w : ℕ) → w < 3 * j → get_or (put_junction R j v e k) w 0 ≡ get_or R w 0
  unfolding put_junction
  put_other w l =
      get_or-set_other (set (set R (3 * j) v) (3 * j + 1) e) (3 * j + 2) w k 0 (λ q. omega arith)
      ∙ get_or-set_other (set R (3 * j) v) (3 * j + 1) w e 0 (λ q. omega arith)
      ∙ get_or-set_other R (3 * j) w v 0 (λ q. omega arith)

  module _ (h : 3 * j + 2 < length R) where
    pub put-holder : holder (put_junction R j v e k) j ≡ v
    unfolding put_junction
    put-holder =
        get_or-set_other (set (set R (3 * j) v) (3 * j + 1) e) (3 * j + 2) (3 * j) k 0 (λ q. omega arith)
        ∙ get_or-set_other (set R (3 * j) v) (3 * j + 1) (3 * j) e 0 (λ q. omega arith)
        ∙ get_or-set_same R (3 * j) v 0 (omega arith)

    pub put-joiner : joiner (put_junction R j v e k) j ≡ e
    unfolding put_junction
    put-joiner =
        get_or-set_other (set (set R (3 * j) v) (3 * j + 1) e) (3 * j + 2) (3 * j + 1) k 0 (λ q. omega arith)
        ∙ get_or-set_same (set R (3 * j) v) (3 * j + 1) e 0 (simp length-set (omega arith))

    pub put-kind : get_or (put_junction R j v e k) (3 * j + 2) 0 ≡ k
    unfolding put_junction
    put-kind = get_or-set_same (set (set R (3 * j) v) (3 * j + 1) e) (3 * j + 2) k 0 (simp length-set (omega arith))

    pub rows-put : {n : ℕ} {K : List ℕ} → v + 1 < e → e < n → kind_at K e ≡ WireEnd (carried (eqb k 67)) → (k ≡ CORNER) ⊎ (k ≡ LINE) → Rows n K R j → Rows n K (put_junction R j v e k) (j + 1)
    rows-put {n} {K} a b c d S =
        record { after = λ i l. after i l (ℕ_discrete i j); inside = λ i l. inside i l (ℕ_discrete i j); joins = λ i l. joins i l (ℕ_discrete i j); letter = λ i l. letter i l (ℕ_discrete i j) }
      where
        after : (i : ℕ) → i < j + 1 → Dec (i ≡ j) → holder (put_junction R j v e k) i + 1 < joiner (put_junction R j v e k) i
        after i l (yes q) = rw (q, put-holder, put-joiner) a
        after i l (no q) = rw (put_other (3 * i) (omega arith), put_other (3 * i + 1) (omega arith)) (S.after i (omega arith))

        inside : (i : ℕ) → i < j + 1 → Dec (i ≡ j) → joiner (put_junction R j v e k) i < n
        inside i l (yes q) = rw (q, put-joiner) b
        inside i l (no q) = rw (put_other (3 * i + 1) (omega arith)) (S.inside i (omega arith))

        joins : (i : ℕ) → i < j + 1 → Dec (i ≡ j) → kind_at K (joiner (put_junction R j v e k) i) ≡ WireEnd (carried (corner (put_junction R j v e k) i))
        joins i l (yes q) = rw (q, put-joiner, put-kind) c
        joins i l (no q) = rw (put_other (3 * i + 1) (omega arith), put_other (3 * i + 2) (omega arith)) (S.joins i (omega arith))

        letter : (i : ℕ) → i < j + 1 → Dec (i ≡ j) → (get_or (put_junction R j v e k) (3 * i + 2) 0 ≡ CORNER) ⊎ (get_or (put_junction R j v e k) (3 * i + 2) 0 ≡ LINE)
        letter i l (yes q) = rw (q, put-kind) d
        letter i l (no q) = rw (put_other (3 * i + 2) (omega arith)) (S.letter i (omega arith))
