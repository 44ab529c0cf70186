-- The outputs of a search: without a line they are zeros.
--     no_line        what is written for no nodes is zeros
--     end-alone      the kind E stands at the last node and nowhere else
use mathlib.Core.Path.{◌≡◌, refl, ap, ◌∙◌}
use mathlib.Core.List.{List, []}
use mathlib.Core.Bool.{Bool, true, false, cond}
use Prim.Native.Nat.{ℕ, zero, suc, ◌+◌}
use native.Mathlib.Numerals.{add-one}
use native.Mathlib.Omega.{arith}
use borrow.Author.Tests.{le-ltb, ltb-true, ltb-false}
use lib.Dec.{ltb, eqb}
use lib.ListN.{length, replicate, replicate-append-replicate}
use Rattle.fixed.specs.Up.{BIAS}
use Rattle.path_finding.specs.Line.{table, place_at, kind_at, direction_at, START, NORMAL, END, Written}
use Rattle.desk_search.specs.Search.{Outputs, zeros}

constant : (f : ℕ → ℕ) (v : ℕ) → ((k : ℕ) → f k ≡ v) → (n : ℕ) → table f n ≡ replicate n v
unfolding table
constant f v h zero = refl
constant f v h (suc n) =
    rw (constant f v h n, h n) (replicate-append-replicate n 1 v ∙ ap (λ (m : ℕ). replicate m v) (add-one n))

no_place : (cs : List ℕ) (k : ℕ) → place_at cs [] k ≡ BIAS
unfolding place_at
no_place cs k = rw (le-ltb k 0 (omega arith))

no_kind : (k : ℕ) → kind_at 0 k ≡ 0
unfolding kind_at
no_kind k = rw (le-ltb (k + 1) 0 (omega arith), le-ltb k 0 (omega arith))

no-direction : (links : List ℕ) (k : ℕ) → direction_at links [] k ≡ 0
unfolding direction_at
no-direction links k = rw (le-ltb (k + 1) 0 (omega arith))

pub no_line : (cx cy links l xs ys kinds dirs : List ℕ) (o : Outputs) → l ≡ [] → length xs ≡ length o.xs → length ys ≡ length o.ys → length kinds ≡ length o.kinds
    → length dirs ≡ length o.dirs → Written cx cy links l xs ys kinds dirs
    → ◌≡◌ {A = Outputs} (record { xs = xs; ys = ys; kinds = kinds; dirs = dirs }) (zeros o)
unfolding zeros
no_line cx cy links l xs ys kinds dirs o el a b c d w =
    let e₁ : xs ≡ replicate (length o.xs) BIAS =
    w.x_is ∙ rw (el, a) (constant (place_at cx []) BIAS (no_place cx) (length o.xs)) in
    let e₂ : ys ≡ replicate (length o.ys) BIAS =
    w.y_is ∙ rw (el, b) (constant (place_at cy []) BIAS (no_place cy) (length o.ys)) in
    let e₃ : kinds ≡ replicate (length o.kinds) 0 =
    w.kind_is ∙ rw (el, c) (constant (kind_at 0) 0 no_kind (length o.kinds)) in
    let e₄ : dirs ≡ replicate (length o.dirs) 0 =
    w.direction_is ∙ rw (el, d) (constant (direction_at links []) 0 (no-direction links) (length o.dirs)) in
    rw (e₁, e₂, e₃, e₄)

-- of a line of m nodes
pub end-alone : (m k : ℕ) → kind_at m k ≡ END → k + 1 ≡ m
unfolding kind_at
end-alone m k e = go (ltb (k + 1) m) refl (ltb k m) refl (eqb k 0) e
  where
    go : (a : Bool) → ltb (k + 1) m ≡ a → (b : Bool) → ltb k m ≡ b → (z : Bool) → cond a (cond z START NORMAL) (cond b END 0) ≡ END → k + 1 ≡ m
    go true p b q true e = absurd (omega arith)
    go true p b q false e = absurd (omega arith)
    go false p true q z e = omega (arith, ltb-false (k + 1) m p, ltb-true k m q)
    go false p false q z e = absurd (omega arith)
