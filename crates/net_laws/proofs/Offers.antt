-- One end more: it names a vertex of the wire, and stands at a spot of it.
use mathlib.Core.Path.{◌≡◌, refl, ◌∙◌}
use mathlib.Core.List.{List}
use mathlib.Core.Logic.{◌⊎◌, inl, inr}
use Prim.Native.Nat.{ℕ, ◌+◌, ◌*◌, ◌<◌, ◌≤◌}
use native.Mathlib.Decide.{ℕ_discrete}
use native.Mathlib.Omega.{arith}
use lib.ListN.{length, get_or, set, length-set}
use lib.Seq.{get_or-set_same, get_or-set_other}
use Rattle.wire.specs.Ends.{CORNER, LINE, end_x_at, end_y_at, end_vertex, end_kind, put_end}
use Rattle.wire.specs.Wires.{Ends, push_end}
use Rattle.net_laws.specs.Laid.{Offered, Before}

-- ---- a row written

module _ (E : List ℕ) (m px py v k : ℕ) where
  put-length : length (put_end E m px py v k) ≡ length E
  unfolding put_end
  put-length = simp length-set

  put_other : (w : ℕ) → (w < 4 * m) ⊎ (4 * m + 3 < w) → get_or (put_end E m px py v k) w 0 ≡ get_or E w 0
  unfolding put_end
  put_other w o =
      get_or-set_other (set (set (set E (4 * m) px) (4 * m + 1) py) (4 * m + 2) v) (4 * m + 3) w k 0 (off 3 (omega arith) o)
      ∙ get_or-set_other (set (set E (4 * m) px) (4 * m + 1) py) (4 * m + 2) w v 0 (off 2 (omega arith) o)
      ∙ get_or-set_other (set E (4 * m) px) (4 * m + 1) w py 0 (off 1 (omega arith) o)
      ∙ get_or-set_other E (4 * m) w px 0 (λ e. off 0 (omega arith) o (omega arith))
    where
      off : (d : ℕ) → d < 4 → (w < 4 * m) ⊎ (4 * m + 3 < w) → w ≡ 4 * m + d → ⊥
      off d h (inl l) e = omega arith
      off d h (inr l) e = omega arith

  module _ (h : 4 * m + 3 < length E) where
    put-x : end_x_at (put_end E m px py v k) m ≡ px
    unfolding put_end
    put-x =
        get_or-set_other (set (set (set E (4 * m) px) (4 * m + 1) py) (4 * m + 2) v) (4 * m + 3) (4 * m) k 0 (λ e. omega arith)
        ∙ get_or-set_other (set (set E (4 * m) px) (4 * m + 1) py) (4 * m + 2) (4 * m) v 0 (λ e. omega arith)
        ∙ get_or-set_other (set E (4 * m) px) (4 * m + 1) (4 * m) py 0 (λ e. omega arith)
        ∙ get_or-set_same E (4 * m) px 0 (omega arith)

    put-y : end_y_at (put_end E m px py v k) m ≡ py
    unfolding put_end
    put-y =
        get_or-set_other (set (set (set E (4 * m) px) (4 * m + 1) py) (4 * m + 2) v) (4 * m + 3) (4 * m + 1) k 0 (λ e. omega arith)
        ∙ get_or-set_other (set (set E (4 * m) px) (4 * m + 1) py) (4 * m + 2) (4 * m + 1) v 0 (λ e. omega arith)
        ∙ get_or-set_same (set E (4 * m) px) (4 * m + 1) py 0 (simp length-set (omega arith))

    put-vertex : end_vertex (put_end E m px py v k) m ≡ v
    unfolding put_end
    put-vertex =
        get_or-set_other (set (set (set E (4 * m) px) (4 * m + 1) py) (4 * m + 2) v) (4 * m + 3) (4 * m + 2) k 0 (λ e. omega arith)
        ∙ get_or-set_same (set (set E (4 * m) px) (4 * m + 1) py) (4 * m + 2) v 0 (simp length-set (omega arith))

    put-kind : end_kind (put_end E m px py v k) m ≡ k
    unfolding put_end
    put-kind = get_or-set_same (set (set (set E (4 * m) px) (4 * m + 1) py) (4 * m + 2) v) (4 * m + 3) k 0 (simp length-set (omega arith))

-- ---- the ends of a net

pub push-length : (px py v k : ℕ) (E : Ends) → length (push_end px py v k E).rows ≡ length E.rows
unfolding push_end
push-length px py v k E = put-length E.rows E.m px py v k

pub before_same : (E : Ends) → Before E E
before_same E = record { more = omega arith; old = λ k h. refl }

pub before-push : (px py v k : ℕ) (E F : Ends) → Before E F → Before E (push_end px py v k F)
unfolding push_end
before-push px py v k E F B =
    record { more = omega (arith, B.more); old = λ w h. put_other F.rows F.m px py v k w (inl (omega (arith, B.more))) ∙ B.old w h }

pub offered-none : (Spot : ℕ → ℕ → Type 0) (a b : ℕ) (E : Ends) → Offered Spot a b E.m E
offered-none Spot a b E =
    record { spot = λ k l h. absurd (omega arith); from = λ k l h. absurd (omega arith); to = λ k l h. absurd (omega arith); kind = λ k l h. absurd (omega arith) }

pub offered-wider : {Spot : ℕ → ℕ → Type 0} {a b c i : ℕ} {E : Ends} → b ≤ c → Offered Spot a b i E → Offered Spot a c i E
offered-wider h O = record { spot = O.spot; from = O.from; to = λ k l g. omega (arith, O.to k l g); kind = O.kind }

pub offered-push : {Spot : ℕ → ℕ → Type 0} {a b i : ℕ} {E : Ends} (px py v k : ℕ) → 4 * E.m + 3 < length E.rows → Spot px py → a ≤ v → v < b → (k ≡ CORNER) ⊎ (k ≡ LINE)
    → Offered Spot a b i E → Offered Spot a b i (push_end px py v k E)
unfolding push_end
offered-push {Spot} {a} {b} {i} {E} px py v k h s l g c O =
    record {
      spot = λ w p q. spot w p q (ℕ_discrete w E.m);
      from = λ w p q. from w p q (ℕ_discrete w E.m);
      to = λ w p q. to w p q (ℕ_discrete w E.m);
      kind = λ w p q. kind w p q (ℕ_discrete w E.m);
    }
  where
    F : List ℕ
    F = put_end E.rows E.m px py v k

    same : (w d : ℕ) → d < 4 → w < E.m → get_or F (4 * w + d) 0 ≡ get_or E.rows (4 * w + d) 0
    same w d p q = put_other E.rows E.m px py v k (4 * w + d) (inl (omega arith))

    same-x : (w : ℕ) → w < E.m → end_x_at F w ≡ end_x_at E.rows w
    same-x w q = put_other E.rows E.m px py v k (4 * w) (inl (omega arith))

    spot : (w : ℕ) → i ≤ w → w < E.m + 1 → Dec (w ≡ E.m) → Spot (end_x_at F w) (end_y_at F w)
    spot w p q (yes e) = rw (e, put-x E.rows E.m px py v k h, put-y E.rows E.m px py v k h) s
    spot w p q (no e) = rw (same-x w (omega arith), same w 1 (omega arith) (omega arith)) (O.spot w p (omega arith))

    from : (w : ℕ) → i ≤ w → w < E.m + 1 → Dec (w ≡ E.m) → a ≤ end_vertex F w
    from w p q (yes e) = rw (e, put-vertex E.rows E.m px py v k h) l
    from w p q (no e) = rw (same w 2 (omega arith) (omega arith)) (O.from w p (omega arith))

    to : (w : ℕ) → i ≤ w → w < E.m + 1 → Dec (w ≡ E.m) → end_vertex F w < b
    to w p q (yes e) = rw (e, put-vertex E.rows E.m px py v k h) g
    to w p q (no e) = rw (same w 2 (omega arith) (omega arith)) (O.to w p (omega arith))

    kind : (w : ℕ) → i ≤ w → w < E.m + 1 → Dec (w ≡ E.m) → (end_kind F w ≡ CORNER) ⊎ (end_kind F w ≡ LINE)
    kind w p q (yes e) = rw (e, put-kind E.rows E.m px py v k h) c
    kind w p q (no e) = rw (same w 3 (omega arith) (omega arith)) (O.kind w p (omega arith))
