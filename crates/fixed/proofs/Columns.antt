-- A lent list of columns.
--     length-pick, pick_at     the words picked from a list: how many, one of them
--     part-pick                a part of a list, as words picked from it
use mathlib.Core.Path.{◌≡◌, refl, sym, ◌∙◌}
use mathlib.Core.List.{List, [], ◌∷◌, ◌++◌}
use Prim.Native.Nat.{ℕ, zero, suc, ◌+◌, ◌<◌, ◌≤◌}
use native.Mathlib.Omega.{arith}
use native.Mathlib.Decide.{ℕ_discrete}
use lib.ListN.{length, get_or, take, drop, length-append, length-drop, get_or-append}
use lib.Seq.{get_or_at, get_or-take, get_or-drop, length-take-le, ext_get_or}
use Rattle.fixed.specs.Columns.{pick, cell}

module _ (f : ℕ → ℕ) where
  pub length-pick : (n : ℕ) (w : List ℕ) → length (pick f n w) ≡ n
  unfolding pick
  length-pick zero w = refl
  length-pick (suc n) w = simp length-append (omega (arith, length-pick n w))

  pub pick_at : (n : ℕ) (w : List ℕ) (i : ℕ) → i < n → get_or (pick f n w) i 0 ≡ get_or w (f i) 0
  unfolding pick
  pick_at zero w i h = absurd (omega arith)
  pick_at (suc n) w i h = by (λ l. pick_at n w i l) (ℕ_discrete i n)
    where
      by : (i < n → get_or (pick f n w) i 0 ≡ get_or w (f i) 0) → Dec (i ≡ n) → get_or (pick f n w ++ (get_or w (f n) 0 ∷ [])) i 0 ≡ get_or w (f i) 0
      by before (yes q) = rw q (get_or_at (pick f n w) (get_or w (f n) 0) [] 0 n (length-pick n w))
      by before (no q) = get_or-append (pick f n w) (get_or w (f n) 0 ∷ []) 0 i (omega (arith, length-pick n w)) ∙ before (omega arith)

pub part-pick : (b n : ℕ) (w : List ℕ) → b + n ≤ length w → take n (drop b w) ≡ pick (cell b) n w
unfolding cell
part-pick b n w r =
    let f : length (take n (drop b w)) ≡ n = length-take-le n (drop b w) (omega (arith, length-drop b w)) in
    ext_get_or 0 (take n (drop b w)) (pick (cell b) n w) (f ∙ sym (length-pick (cell b) n w)) (λ i h. at i (omega (arith, f)))
  where
    at : (i : ℕ) → i < n → get_or (take n (drop b w)) i 0 ≡ get_or (pick (cell b) n w) i 0
    at i h = get_or-take n (drop b w) i 0 h ∙ get_or-drop b w i 0 ∙ sym (pick_at (cell b) n w i h)
