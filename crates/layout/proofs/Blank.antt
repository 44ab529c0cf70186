-- A page with nothing on it: zeros behind no entry are zeros everywhere.
use mathlib.Core.Path.{◌≡◌, ap, sym, ◌∙◌}
use mathlib.Core.List.{List}
use Prim.Native.Nat.{ℕ, ◌-◌}
use native.Mathlib.Omega.{arith}
use lib.IntN.{ℤ}
use lib.ListN.{length, replicate, length-replicate}
use Rattle.fixed.specs.Up.{BIAS, ups}
use Rattle.fixed.proofs.Lists.{length-ups}
use Rattle.zeros.specs.Zeros.{closed}
use Rattle.wire.specs.Wires.{vertices}
use Rattle.layout.specs.Layout.{Page, page, blank}

all_closed : (z : ℕ) (l : List ℕ) → closed z 0 l ≡ replicate (length l) z
unfolding closed
all_closed z l = let e : length l - 0 ≡ length l = omega arith in rw e

all-steps : (l : List ℤ) → closed BIAS 0 (ups l) ≡ replicate (length l) BIAS
all-steps l = all_closed BIAS (ups l) ∙ ap (λ (n : ℕ). replicate n BIAS) (length-ups l)

pub blank-is : (nets : List ℕ) (x y : List ℤ) (K R nets1 x1 y1 K1 R1 : List ℕ) → nets1 ≡ closed 0 0 nets → x1 ≡ closed BIAS 0 (ups x) → y1 ≡ closed BIAS 0 (ups y) → K1 ≡ closed 0 0 K → R1 ≡ closed 0 0 R
    → page nets1 (vertices x1 y1 K1 0) R1 0 ≡ blank (length nets) (length x) (length y) (length K) (length R)
unfolding blank
blank-is nets x y K R nets1 x1 y1 K1 R1 a b d e f = rw (a, b, d, e, f, all_closed 0 nets, all-steps x, all-steps y, all_closed 0 K, all_closed 0 R)

-- the lists of a page with no net are as long as it says
pub blank-long : (nets : List ℕ) (x y : List ℤ) (K R : List ℕ) (a b d e f : ℕ) → page nets (vertices (ups x) (ups y) K 0) R 0 ≡ blank a b d e f
    → page nets (vertices (ups x) (ups y) K 0) R 0 ≡ blank (length nets) (length x) (length y) (length K) (length R)
unfolding blank
blank-long nets x y K R a b d e f q =
    let n : length nets ≡ a = ap (λ (P : Page). length P.nets) q ∙ length-replicate a 0 in
    let u : length x ≡ b = sym (length-ups x) ∙ ap (λ (P : Page). length P.wires.x) q ∙ length-replicate b BIAS in
    let v : length y ≡ d = sym (length-ups y) ∙ ap (λ (P : Page). length P.wires.y) q ∙ length-replicate d BIAS in
    let k : length K ≡ e = ap (λ (P : Page). length P.wires.kinds) q ∙ length-replicate e 0 in
    let r : length R ≡ f = ap (λ (P : Page). length P.joins) q ∙ length-replicate f 0 in
    rw (n, u, v, k, r) q
