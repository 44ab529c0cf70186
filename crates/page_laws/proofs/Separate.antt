-- A page is what separation asks for, and after it every endpoint that was touched still is.
use mathlib.Core.Path.{◌≡◌, sym, ap, ◌∙◌}
use mathlib.Core.List.{List}
use Prim.Native.Nat.{ℕ, ◌*◌, ◌<◌, ◌≤◌}
use native.Mathlib.Omega.{arith}
use lib.ListN.{length, get_or, take}
use lib.Seq.{length-take-le, get_or-take}
use Rattle.vertex.specs.Kinds.{kind_of}
use Rattle.vertex.specs.Pages.{Within}
use Rattle.fixup.specs.Moves.{LOWEST, HIGHEST}
use Rattle.fixup.specs.Separation.{separate_wires}
use Rattle.fixup.specs.Promises.{Bounded, still, Still, Parted}
use Rattle.fixup.proofs.Promises.{separate-bounded, separate-still, separate-parted}
use Rattle.wire.specs.Wires.{Vertices}
use Rattle.page_laws.specs.Connected.{Page, Touched}
use Rattle.page_laws.specs.Separated.{places_of, Separable, Separated}

within-take : {lo hi n : ℕ} (l : List ℕ) → Within lo hi n l → Within lo hi n (take n l)
within-take {n = n} l W = record { low = λ i h. rw (get_or-take n l i 0 h) (W.low i h); high = λ i h. rw (get_or-take n l i 0 h) (W.high i h) }

module _ (lo hi : ℕ) (P : Vertices) (R : List ℕ) (j : ℕ) (page : Page lo hi P R j) where
  abbrev J : List ℕ
  J = take (3 * j) R

  pub x_all : length (places_of P).x ≡ P.n
  x_all = length-take-le P.n P.x (omega (arith, page.few, page.roomy.of_x))

  pub y_all : length (places_of P).y ≡ P.n
  y_all = length-take-le P.n P.y (omega (arith, page.few, page.roomy.of_y))

  pub x-near : Within lo hi P.n (places_of P).x
  x-near = within-take P.x page.good.near_x

  pub y-near : Within lo hi P.n (places_of P).y
  y-near = within-take P.y page.good.near_y

  -- what separation asks
  pub page-separable : LOWEST ≤ lo → hi ≤ HIGHEST → Separable P J
  page-separable a b =
      record {
        joined = page.good.joined;
        x_all = x_all;
        y_all = y_all;
        kinds_all = omega (arith, page.few, page.roomy.of_kinds);
        few = page.few;
        near_x = record { low = λ i h. omega (arith, x-near.low i h); high = λ i h. omega (arith, x-near.high i h) };
        near_y = record { low = λ i h. omega (arith, y-near.low i h); high = λ i h. omega (arith, y-near.high i h) };
      }

  -- what it promises, for this page
  pub page-bounded : Bounded lo hi P.n P.kinds J (places_of P)
  page-bounded = separate-bounded P.kinds J P.n page.good.joined page.few lo hi (places_of P) x_all y_all x-near y-near

  pub page-still : Still P.kinds J (places_of P)
  page-still = separate-still P.kinds J P.n page.good.joined page.good.wired page.good.ended page.few (places_of P) x_all y_all

  pub page-parted : Parted P.kinds J (places_of P)
  page-parted = separate-parted P.kinds J (places_of P) (omega (arith, x_all, page.few)) (omega (arith, y_all, page.few))

  pub endpoint-stays : (Q : Vertices) → Separated P Q J → (a b px py : ℕ) → b ≤ P.n → Touched a b P px py → Touched a b Q px py
  endpoint-stays Q S a b px py g T =
      let v = T.vertex in
      let h : v < P.n = omega (arith, T.to) in
      let x : get_or Q.x v 0 ≡ get_or (separate_wires P.kinds J (places_of P)).x v 0 = sym (get_or-take P.n Q.x v 0 h) ∙ ap (λ (l : List ℕ). get_or l v 0) S.x_is in
      let y : get_or Q.y v 0 ≡ get_or (separate_wires P.kinds J (places_of P)).y v 0 = sym (get_or-take P.n Q.y v 0 h) ∙ ap (λ (l : List ℕ). get_or l v 0) S.y_is in
      record {
        vertex = v;
        from = T.from;
        to = T.to;
        stays = ap (λ (u : ℕ). still (kind_of u)) (S.kinds_kept v h) ∙ T.stays;
        at_x = x ∙ page-still.still_x v T.stays ∙ get_or-take P.n P.x v 0 h ∙ T.at_x;
        at_y = y ∙ page-still.still_y v T.stays ∙ get_or-take P.n P.y v 0 h ∙ T.at_y;
      }
