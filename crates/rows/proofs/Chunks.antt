-- `chunks_exact` over n rows of w words gives these rows.
use mathlib.Core.Path.{◌≡◌, refl, sym, ap, subst, ◌∙◌}
use mathlib.Core.List.{List, ◌∷◌, ◌++◌}
use Prim.Native.Nat.{ℕ, zero, suc, ◌+◌, ◌*◌, ◌/◌, ◌<◌}
use native.Mathlib.Nat.{zero-mul}
use native.Mathlib.Omega.{arith}
use denote.Ref.{Bor}
use lib.ListN.{length, take, drop, length-append}
use lib.Seq.{take_at, drop_at}
use Rattle.std.proofs.Common.{Some, None}
use Rattle.std.proofs.lemmas.Iterator.{YieldsList}
use Rattle.std.proofs.lemmas.Iterator.Splits.{YieldsList-from_shown_while}
use Rattle.std.proofs.lemmas.Nat.{div-mul-add}
use Rattle.std.specs.Slice.Iter.{chunks_exact_rest, chunks_exact_size, chunks_exact_steps}
use Rattle.std.specs.declared.slice.ChunksExact.{ChunksExact}
use Rattle.rows.specs.Rows.{rows}
use Rattle.rows.proofs.Rows.{length-rows, suc-row}

-- what is left: whole rows
record Whole (s : ChunksExact ℕ) : Type 0 where
  wide : 0 < chunks_exact_size s
  count : ℕ
  long : length (chunks_exact_rest s) ≡ count * chunks_exact_size s

left : ChunksExact ℕ → List (List ℕ)
left s = rows (chunks_exact_size s) (length (chunks_exact_rest s) / chunks_exact_size s) (chunks_exact_rest s)

quotient : (l n w : ℕ) → 0 < w → l ≡ n * w → l / w ≡ n
quotient l n w h e =
    let z : n * w + 0 ≡ n * w = omega arith in
    ap (λ (t : ℕ). t / w) (e ∙ sym z) ∙ div-mul-add n w 0 h

left-is : (s : ChunksExact ℕ) (p : Whole s) → left s ≡ rows (chunks_exact_size s) p.count (chunks_exact_rest s)
unfolding left
left-is s p = ap (λ (n : ℕ). rows (chunks_exact_size s) n (chunks_exact_rest s)) (quotient _ p.count _ p.wide p.long)

none : (s t : ChunksExact ℕ) → Whole s → chunks_exact_steps s None t → length (left s) ≡ 0
none s t p h = ap length (left-is s p) ∙ length-rows (chunks_exact_size s) p.count (chunks_exact_rest s) ∙ go p.count p.long
  where
    go : (n : ℕ) → length (chunks_exact_rest s) ≡ n * chunks_exact_size s → n ≡ 0
    go zero e = refl
    go (suc n) e = absurd (omega (arith, suc-row n (chunks_exact_size s), h.1.0))

some : (s : ChunksExact ℕ) (x : Bor (List ℕ)) (t : ChunksExact ℕ) → Whole s → chunks_exact_steps s (Some x) t → Whole t × (left s ≡ x.now ∷ left t)
unfolding rows
some s x t p h = go p.count p.long
  where
    w : ℕ
    w = chunks_exact_size s

    split : chunks_exact_rest s ≡ x.now ++ chunks_exact_rest t
    split = h.1.0

    wide : length x.now ≡ w
    wide = h.1.1

    go : (n : ℕ) → length (chunks_exact_rest s) ≡ n * w → Whole t × (left s ≡ x.now ∷ left t)
    go zero e = absurd (omega (arith, ap length split, length-append x.now (chunks_exact_rest t), zero-mul w, p.wide))
    go (suc n) e =
        let l : length (chunks_exact_rest t) ≡ n * w = omega (arith, ap length split, length-append x.now (chunks_exact_rest t), suc-row n w) in
        let q : Whole t = record { wide = rw h.0 p.wide; count = n; long = rw h.0 l } in
        let e₁ : left s ≡ rows w (suc n) (chunks_exact_rest s) = left-is s record { wide = p.wide; count = suc n; long = e } in
        let e₂ : take w (chunks_exact_rest s) ≡ x.now = ap (take w) split ∙ take_at x.now (chunks_exact_rest t) w wide in
        let e₃ : drop w (chunks_exact_rest s) ≡ chunks_exact_rest t = ap (drop w) split ∙ drop_at x.now (chunks_exact_rest t) w wide in
        (q, e₁ ∙ rw (e₂, e₃) (ap (λ (r : List (List ℕ)). x.now ∷ r) (ap (λ (v : ℕ). rows v n (chunks_exact_rest t)) (sym h.0) ∙ sym (left-is t q))))

pub YieldsList-from_rows : {s : ChunksExact ℕ} (w n : ℕ) (xs : List ℕ) → 0 < w → chunks_exact_size s ≡ w → chunks_exact_rest s ≡ xs → length xs ≡ n * w
    → YieldsList (chunks_exact_steps {A = ℕ}) (λ x. x.now) s (rows w n xs)
YieldsList-from_rows {s} w n xs h es er e =
    let p : Whole s = record { wide = rw es h; count = n; long = rw (er, es) e } in
    subst (YieldsList (chunks_exact_steps {A = ℕ}) (λ x. x.now) s) (left-is s p ∙ rw (es, er)) (YieldsList-from_shown_while chunks_exact_steps (λ x. x.now) left Whole none some s p)
