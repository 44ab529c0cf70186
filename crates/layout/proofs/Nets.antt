-- The nets of a page, with their rows, are those that crate page_laws speaks of, one after another.
use mathlib.Core.Path.{◌≡◌, refl}
use mathlib.Core.List.{List}
use Prim.Native.Nat.{ℕ, zero, suc, ◌*◌}
use lib.ListN.{get_or}
use Rattle.nodes.specs.Graph.{Graph}
use Rattle.anchors.specs.Records.{NET}
use Rattle.net.specs.Points.{points_x, points_y}
use Rattle.net.specs.Nets.{Net}
use Rattle.page_laws.specs.Connected as Connected
use Rattle.page_laws.specs.Connected.{Ground}
use Rattle.page_laws.specs.Nets as Nets
use Rattle.page_laws.proofs.Theorems.{all-nets}
use Rattle.layout.specs.Layout.{Page, net_of, nets_to, with_net}

pub record Same (N : Net) (P : Page) : Type 0 where
  pub page_is : N.page ≡ P.wires
  pub joins_is : N.joins ≡ P.joins
  pub j_is : N.j ≡ P.j

module _ (G : Graph) (I E : List ℕ) (e : ℕ) where
  -- the endpoints of the net k
  abbrev pub xs_of : ℕ → List ℕ
  xs_of k = points_x E (get_or I (k * NET) 0) e

  abbrev pub ys_of : ℕ → List ℕ
  ys_of k = points_y E (get_or I (k * NET) 0) e

  pub same-nets : (P : Page) (k : ℕ) → Same (Nets.nets_to G xs_of ys_of k P.wires P.joins P.j) (nets_to G I E e k P)
  unfolding nets_to Nets.nets_to with_net net_of
  same-nets P zero = record { page_is = refl; joins_is = refl; j_is = refl }
  same-nets P (suc k) =
      let s = same-nets P k in
      record { page_is = rw (s.page_is, s.joins_is, s.j_is); joins_is = rw (s.page_is, s.joins_is, s.j_is); j_is = rw (s.page_is, s.joins_is, s.j_is) }

  -- they leave a good page
  pub nets-good : (lo hi : ℕ) → Ground lo hi G → (P : Page) → Connected.Page lo hi P.wires P.joins P.j → (k : ℕ)
      → Connected.Page lo hi (nets_to G I E e k P).wires (nets_to G I E e k P).joins (nets_to G I E e k P).j
  nets-good lo hi g P p k =
      let s = same-nets P k in
      rw (← s.page_is, ← s.joins_is, ← s.j_is) (all-nets lo hi G g xs_of ys_of P.wires P.joins P.j p k).page
