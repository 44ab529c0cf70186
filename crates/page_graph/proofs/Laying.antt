-- The implicit anchors behind the explicit ones.
use mathlib.Core.Path.{◌≡◌, sym, ap, ◌∙◌}
use mathlib.Core.List.{List, ◌++◌}
use Prim.Native.Nat.{ℕ, ◌+◌, ◌≤◌}
use native.Mathlib.Omega.{arith}
use lib.ListN.{length, take, length-map}
use lib.Seq.{length-take-le, take-append-add}
use Rattle.std.proofs.lemmas.List.{map-append, length-take, take-append-le}
use Rattle.fixed.specs.declared.Anchor.{Anchor}
use Rattle.corridors.specs.Answer.{Given}
use Rattle.corridors.specs.Merge.{Anchors}
use Rattle.scan.specs.Lent.{anchors}
use Rattle.anchors.specs.Explicit.{columns}
use Rattle.page_graph.specs.Page.{then_implicit, anchors_of}

-- the first e anchors of a list, and behind them those of a, at the head of s
pub laid : (e m : ℕ) (l s t : List Anchor) (a : Anchors) → e ≤ length l → Given m s a → columns (take (e + m) (take e l ++ (s ++ t))) ≡ then_implicit (columns (take e l)) a
unfolding then_implicit
laid e m l s t a h g =
    let b : m ≤ length s = omega (arith, g.count, ap length g.place_x, length-map (take m s) (λ (b : Anchor). b.x), length-take m s) in
    let k : take (e + m) (take e l ++ (s ++ t)) ≡ take e l ++ take m s =
    ap (λ (n : ℕ). take (n + m) (take e l ++ (s ++ t))) (sym (length-take-le e l h)) ∙ take-append-add (take e l) (s ++ t) m ∙ ap (λ (w : List Anchor). take e l ++ w) (take-append-le m s t b) in
    let f = λ (w : Anchor → ℕ). map-append w (take e l) (take m s) in
    rw (k, f (λ b. b.x), f (λ b. b.y), f (λ b. b.directions), f (λ b. b.ignored), g.place_x, g.place_y, g.directed, g.free, g.count)

-- a list of anchors, of which the first e are explicit
pub anchors-part : (l : List Anchor) (e : ℕ) → anchors l e ≡ anchors_of e (columns l)
anchors-part l e = rw length-map
