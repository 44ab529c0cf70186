-- 01, 'Nets': the nets of a page, one after another on what the earlier ones left. The net k has the endpoints px k, py k.
use Rattle.std.specs.Prelude.{◌≡◌, List, ℕ, zero, suc, ◌<◌, ◌≤◌, length, get_or}
use Rattle.nodes.specs.Graph.{Graph}
use Rattle.vertex.specs.Pages.{holder, joiner}
use Rattle.wire.specs.Wires.{Vertices}
use Rattle.net.specs.Nets.{Net, net, connect_net}
use Rattle.page_laws.specs.Connected.{Page, Touched}

-- after the first k nets, with the number of the last one
unfoldable pub nets_to : Graph → (ℕ → List ℕ) → (ℕ → List ℕ) → ℕ → Vertices → List ℕ → ℕ → Net
nets_to G px py zero P R j = net 0 P R j
nets_to G px py (suc k) P R j =
    let N = nets_to G px py k P R j in
    connect_net G (px k) (py k) N.page N.joins N.j

-- of the net i among those that gave N: its vertices are those from A to before B, its junctions join two of them, at 0 each of its endpoints is at one that
-- separation does not move, else it has none
pub record Stands (px py : List ℕ) (A B N : Net) : Type 0 where
  pub more : A.page.n ≤ B.page.n
  pub more_rows : A.j ≤ B.j
  pub within : B.page.n ≤ N.page.n
  pub within_rows : B.j ≤ N.j
  pub own : (r : ℕ) → A.j ≤ r → r < B.j → (A.page.n ≤ holder N.joins r) × (joiner N.joins r < B.page.n)
  pub touched : B.number ≡ 0 → (i : ℕ) → i < length px → Touched A.page.n B.page.n N.page (get_or px i 0) (get_or py i 0)
  pub none : (B.number ≡ 0 → ⊥) → (B.page.n ≡ A.page.n) × (B.j ≡ A.j)

-- the page after k nets is what separation takes, and each of them stands on it
pub record Routed (lo hi : ℕ) (G : Graph) (px py : ℕ → List ℕ) (k : ℕ) (P : Vertices) (R : List ℕ) (j : ℕ) : Type 0 where
  pub page : Page lo hi (nets_to G px py k P R j).page (nets_to G px py k P R j).joins (nets_to G px py k P R j).j
  pub each : (i : ℕ) → i < k → Stands (px i) (py i) (nets_to G px py i P R j) (nets_to G px py (suc i) P R j) (nets_to G px py k P R j)
