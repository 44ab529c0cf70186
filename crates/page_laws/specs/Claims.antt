-- 01, 'Nets' and 'Separation': what is true of every net on a good page. The proofs are in proofs/Theorems.
use Rattle.std.specs.Prelude.{List, ℕ, ◌*◌, ◌≤◌, take}
use Rattle.nodes.specs.Graph.{Graph}
use Rattle.wire.specs.Wires.{Vertices}
use Rattle.fixup.specs.Moves.{LOWEST, HIGHEST}
use Rattle.fixup.specs.Promises.{Bounded, Still, Parted}
use Rattle.net.specs.Nets.{connect_net}
use Rattle.page_laws.specs.Connected.{Ground, Page, Touched, Connected}
use Rattle.page_laws.specs.Nets.{Routed}
use Rattle.page_laws.specs.Separated.{places_of, Separable, Separated}

-- a net leaves the page good, refused or not
abbrev pub ConnectNet : Type 0
ConnectNet =
    (lo hi : ℕ) (px py : List ℕ) (P : Vertices) (R : List ℕ) (j : ℕ) → Page lo hi P R j → (G : Graph) → Ground lo hi G → Connected lo hi px py P R j (connect_net G px py P R j)

-- and so do all nets of a page, one after another
abbrev pub AllNets : Type 0
AllNets =
    (lo hi : ℕ) (G : Graph) → Ground lo hi G → (px py : ℕ → List ℕ) (P : Vertices) (R : List ℕ) (j : ℕ) → Page lo hi P R j → (k : ℕ) → Routed lo hi G px py k P R j

-- a good page whose coordinates are far enough from the ends of the numbers is what separation asks for
abbrev pub PageSeparable : Type 0
PageSeparable = (lo hi : ℕ) (P : Vertices) (R : List ℕ) (j : ℕ) → Page lo hi P R j → LOWEST ≤ lo → hi ≤ HIGHEST → Separable P (take (3 * j) R)

-- a good page keeps all that separation promises
pub record Promised (lo hi : ℕ) (P : Vertices) (J : List ℕ) : Type 0 where
  pub bounded : Bounded lo hi P.n P.kinds J (places_of P)
  pub still : Still P.kinds J (places_of P)
  pub parted : Parted P.kinds J (places_of P)

abbrev pub SeparatePage : Type 0
SeparatePage = (lo hi : ℕ) (P : Vertices) (R : List ℕ) (j : ℕ) → Page lo hi P R j → Promised lo hi P (take (3 * j) R)

-- after separation an endpoint that was touched still is
abbrev pub EndpointStays : Type 0
EndpointStays =
    (lo hi : ℕ) (P : Vertices) (R : List ℕ) (j : ℕ) → Page lo hi P R j → (Q : Vertices) → Separated P Q (take (3 * j) R) → (a b px py : ℕ) → b ≤ P.n → Touched a b P px py → Touched a b Q px py
