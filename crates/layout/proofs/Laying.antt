-- One net more on a page: its row, and what routing left; and the loop over all nets.
use mathlib.Core.Path.{◌≡◌, refl, sym, ap, subst}
use mathlib.Core.Bool.{Bool, true, false}
use mathlib.Core.List.{List}
use Prim.Native.Nat.{ℕ, ◌+◌, ◌-◌, ◌*◌, ◌≤◌}
use native.Mathlib.Omega.{arith}
use native.Mathlib.Numerals.{add-one}
use lib.ListN.{get_or, take, replicate, length-replicate}
use Rattle.fixed.specs.Up.{BIAS}
use Rattle.nodes.specs.Graph.{Graph}
use Rattle.anchors.specs.Records.{NET}
use Rattle.wire.specs.Wires.{Vertices, vertices}
use Rattle.net.specs.Points.{column}
use Rattle.net.specs.Nets.{Net, net, connect_net}
use Rattle.fixup.specs.Moves.{LOWEST, HIGHEST}
use Rattle.page_laws.specs.Connected as Connected
use Rattle.page_laws.specs.Connected.{Ground}
use Rattle.page_laws.proofs.Ranges.{blank-page}
use Rattle.page_laws.specs.Separated.{Separable}
use Rattle.page_laws.proofs.Separate as Separate
use Rattle.layout.specs.Separated.{separated}
use Rattle.layout.specs.Layout.{Page, page, put_net, with_net, net_of, nets_to, blank, parted, drawn, Fit}
use Rattle.layout.proofs.Nets.{nets-good}
use Rattle.layout.proofs.Bounds.{connect-room}

module _ (G : Graph) (E : List ℕ) (e id : ℕ) (px py : List ℕ) (P : Vertices) (R : List ℕ) (j : ℕ) (W : Vertices) (R1 : List ℕ) (number j1 : ℕ)
    (hx : px ≡ column 1 E id e) (hy : py ≡ column 2 E id e) (made : net number W R1 j1 ≡ connect_net G px py P R j) where
  routed : net number W R1 j1 ≡ connect_net G (column 1 E id e) (column 2 E id e) P R j
  routed = rw (← hx, ← hy) made

  pub net-laid : (i : ℕ) (nets nets1 : List ℕ) (told : ℕ) → told ≡ number → nets1 ≡ put_net nets i told P.n (W.n - P.n) j (j1 - j)
      → page nets1 W R1 j1 ≡ with_net i (net_of G E e id (page nets P R j)) (page nets P R j)
  unfolding net_of with_net
  net-laid i nets nets1 told t h = rw (h, t) (ap (λ (N : Net). with_net i N (page nets P R j)) routed)

  pub net-room : Fit P.n j → Fit W.n j1
  net-room f = subst (λ (N : Net). Fit N.page.n N.j) (sym routed) (connect-room G (column 1 E id e) (column 2 E id e) P R j f)

-- ---- the loop

pub nets-none : (G : Graph) (I E : List ℕ) (e : ℕ) (P : Page) → P ≡ nets_to G I E e 0 P
unfolding nets_to
nets-none G I E e P = refl

pub nets-more : (G : Graph) (I E : List ℕ) (e k id : ℕ) (P Q Q1 : Page) → Q ≡ nets_to G I E e k P → id ≡ get_or I k 0 → Q1 ≡ with_net k (net_of G E e id Q) Q → Q1 ≡ nets_to G I E e (k + 1) P
unfolding nets_to
nets-more G I E e k id P Q Q1 h hid h1 =
    let z : k * NET ≡ k = omega arith in
    rw (add-one k, z, ← h, ← hid) h1

pub nets-end : (G : Graph) (I E : List ℕ) (e k n : ℕ) (P Q : Page) → k ≡ n → Q ≡ nets_to G I E e k P → Q ≡ nets_to G I E e n P
nets-end G I E e k n P Q h q = rw (← h) q

-- ---- the whole page

module _ (G : Graph) (ground : Ground LOWEST HIGHEST G) (I E : List ℕ) (e nn a b c d f : ℕ) (hb : 512 ≤ b) (hc : 512 ≤ c) (hd : 512 ≤ d) (hf : 768 ≤ f) where
  blank-good : Connected.Page LOWEST HIGHEST (blank a b c d f).wires (blank a b c d f).joins (blank a b c d f).j
  unfolding blank
  blank-good =
      blank-page LOWEST HIGHEST (vertices (replicate b BIAS) (replicate c BIAS) (replicate d 0) 0) (replicate f 0) refl
      (record { of_x = omega (arith, length-replicate {A = ℕ} b BIAS); of_y = omega (arith, length-replicate {A = ℕ} c BIAS); of_kinds = omega (arith, length-replicate {A = ℕ} d 0) })
      (omega (arith, length-replicate {A = ℕ} f 0))

  -- it can be separated
  pub page-separable : (nets : List ℕ) (W : Vertices) (R : List ℕ) (j : ℕ) → page nets W R j ≡ nets_to G I E e nn (blank a b c d f) → Separable W (take (3 * j) R)
  page-separable nets W R j h =
      let p = subst (λ (Q : Page). Connected.Page LOWEST HIGHEST Q.wires Q.joins Q.j) (sym h) (nets-good G I E e LOWEST HIGHEST ground (blank a b c d f) blank-good nn) in
      Separate.page-separable LOWEST HIGHEST W R j p (omega arith) (omega arith)

pub from-blank : (G : Graph) (I E : List ℕ) (e nn : ℕ) (P Q B : Page) → P ≡ B → Q ≡ nets_to G I E e nn P → Q ≡ nets_to G I E e nn B
from-blank G I E e nn P Q B h q = rw (← h) q

pub drawn-as-is : (apart : Bool) (P Q : Page) → apart ≡ false → P ≡ Q → P ≡ drawn apart Q
unfolding drawn
drawn-as-is apart P Q e h = rw e h

pub drawn-apart : (apart : Bool) (nets : List ℕ) (W W1 : Vertices) (R : List ℕ) (j : ℕ) (Q : Page) → apart ≡ true → page nets W R j ≡ Q → W1 ≡ separated R j W → page nets W1 R j ≡ drawn apart Q
unfolding drawn parted
drawn-apart apart nets W W1 R j Q e h s = rw (e, ← h, s)
