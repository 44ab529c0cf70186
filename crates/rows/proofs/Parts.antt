-- A part of a slice that a callee was lent as `&mut xs[a..a + k]` and left as ys: what the whole is then, and each part of it.
use mathlib.Core.Path.{◌≡◌, sym, ap, ◌∙◌}
use mathlib.Core.List.{List, ◌++◌}
use Prim.Native.Nat.{ℕ, ◌+◌, ◌-◌, ◌≤◌, ◌<◌}
use native.Mathlib.Omega.{arith}
use lib.ListN.{length, get_or, take, drop, length-append, length-drop, get_or-append}
use lib.Seq.{take_at, drop_at, take-take, drop-drop, get_or-take, length-take-le}
use Rattle.rows.specs.Rows.{part, with_part}
use Rattle.rows.proofs.Rows.{take-drop}

module _ (a k : ℕ) (ys xs : List ℕ) (hy : length ys ≡ k) (hx : a + k ≤ length xs) where
  head : length (take a xs) ≡ a
  head = length-take-le a xs (omega arith)

  pub put-length : length (with_part a k ys xs) ≡ length xs
  unfolding with_part
  put-length = rw (length-append (take a xs) (ys ++ drop k (drop a xs)), length-append ys (drop k (drop a xs)), head, hy, length-drop k (drop a xs), length-drop a xs) (omega arith)

  pub put_same : part a k (with_part a k ys xs) ≡ ys
  unfolding with_part part
  put_same = ap (take k) (drop_at (take a xs) (ys ++ drop k (drop a xs)) a head) ∙ take_at ys (drop k (drop a xs)) k hy

  pub put-before : (b n : ℕ) → b + n ≤ a → part b n (with_part a k ys xs) ≡ part b n xs
  unfolding with_part part
  put-before b n h =
      take-drop b n (take a xs ++ (ys ++ drop k (drop a xs)))
      ∙ ap (drop b)
      (sym (take-take (b + n) a (take a xs ++ (ys ++ drop k (drop a xs))) h)
      ∙ ap (take (b + n)) (take_at (take a xs) (ys ++ drop k (drop a xs)) a head)
      ∙ take-take (b + n) a xs h)
      ∙ sym (take-drop b n xs)

  pub put_rest : (b : ℕ) → a + k ≤ b → drop b (with_part a k ys xs) ≡ drop b xs
  unfolding with_part
  put_rest b h =
      let e : a + k + (b - (a + k)) ≡ b = omega arith in
      let t : drop (a + k) (take a xs ++ (ys ++ drop k (drop a xs))) ≡ drop (a + k) xs =
      sym (drop-drop k a (take a xs ++ (ys ++ drop k (drop a xs))))
      ∙ ap (drop k) (drop_at (take a xs) (ys ++ drop k (drop a xs)) a head)
      ∙ drop_at ys (drop k (drop a xs)) k hy ∙ drop-drop k a xs in
      ap (λ (m : ℕ). drop m (take a xs ++ (ys ++ drop k (drop a xs)))) (sym e)
      ∙ sym (drop-drop (b - (a + k)) (a + k) (take a xs ++ (ys ++ drop k (drop a xs)))) ∙ ap (drop (b - (a + k))) t ∙ drop-drop (b - (a + k)) (a + k) xs
      ∙ ap (λ (m : ℕ). drop m xs) e

  pub put-behind : (b n : ℕ) → a + k ≤ b → part b n (with_part a k ys xs) ≡ part b n xs
  unfolding part
  put-behind b n h = ap (take n) (put_rest b h)

  pub put-head : (i : ℕ) → i < a → get_or (with_part a k ys xs) i 0 ≡ get_or xs i 0
  unfolding with_part
  put-head i h = get_or-append (take a xs) (ys ++ drop k (drop a xs)) 0 i (omega (arith, head)) ∙ get_or-take a xs i 0 h
