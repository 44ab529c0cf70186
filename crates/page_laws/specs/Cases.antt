-- A closed case: what the claims ask can be so, and what they then give. Beside 01's case of 14 (crate net, Cases): the first two of its endpoints alone, (0,0)
-- and (20,0) with no boxes, get 0.
use Rattle.std.specs.Prelude.{true, List, [], ◌∷◌, ℕ, replicate}
use Rattle.graph.specs.Cases.{at}
use Rattle.net.specs.Cases.{row, blank}
use Rattle.net.specs.Nets.{Net, connect_net}
use Rattle.page_laws.specs.Connected.{Ground, Page, Touched}

abbrev pub no_joins : List ℕ
no_joins = replicate 768 0

abbrev pub two : Net
two = connect_net (row true) (at 0 ∷ at 20 ∷ []) (at 0 ∷ at 0 ∷ []) blank no_joins 0

pub record Witness : Type 0 where
  pub page : Page (at 0) (at 20) blank no_joins 0
  pub ground : Ground (at 0) (at 20) (row true)
  pub first : Touched 0 two.page.n two.page (at 0) (at 0)
  pub second : Touched 0 two.page.n two.page (at 20) (at 0)
