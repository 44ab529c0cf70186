-- A page that is laid out from records: each net by its row, and where its vertices lie.
use mathlib.Core.Path.{◌≡◌}
use mathlib.Core.Bool.{Bool, true, false, cond}
use mathlib.Core.List.{List}
use Prim.Native.Nat.{ℕ, ◌+◌, ◌-◌}
use native.Mathlib.Omega.{arith}
use Rattle.vertex.specs.Pages.{Within}
use Rattle.fixup.specs.Promises.{REACH}
use Rattle.anchors.specs.Records.{Records}
use Rattle.page_graph.specs.Page.{crowded, graph_of_page}
use Rattle.page_graph.specs.Lent.{Asked}
use Rattle.page_graph.specs.Claims.{Placed}
use Rattle.page_laws.specs.Connected.{Ground}
use Rattle.page_laws.specs.Connected as Connected
use Rattle.layout.specs.Layout.{Page, parted, drawn}
use Rattle.layout.specs.Separated.{separated}
use Rattle.layout.specs.Answer.{routed, layout_page}
use Rattle.layout.proofs.Nets.{nets-good}
use Rattle.layout.proofs.Ground.{page-ground}
use Rattle.layout_laws.specs.Laid.{LOW, HIGH, LaidOut, Ready, Layout}
use Rattle.layout_laws.proofs.Nets.{nets-laid, separated-x, separated-y, parted-laid}

wider : {n : ℕ} (l : List ℕ) → Within LOW HIGH n l → Within (LOW - REACH) (HIGH + REACH) n l
wider l W = record { low = λ i h. omega (arith, W.low i h); high = λ i h. omega (arith, W.high i h) }

module _ (r : Records) (pruned : Bool) (P : Page) (asked : Asked r) (placed : Placed r) (clear : crowded r ≡ false) (ready : Ready r.net_count P) where
  pub ground : Ground LOW HIGH (graph_of_page r pruned)
  ground = page-ground LOW HIGH (omega arith) (omega arith) (omega arith) r pruned asked placed clear

  pub good : Connected.Page LOW HIGH (routed r pruned P).wires (routed r pruned P).joins (routed r pruned P).j
  unfolding routed
  good = nets-good (graph_of_page r pruned) r.nets r.ends r.end_count LOW HIGH ground P ready.page r.net_count

  whole : LaidOut r (routed r pruned P)
  unfolding routed
  whole =
      record {
        each = nets-laid LOW HIGH (graph_of_page r pruned) ground r.nets r.ends r.end_count P ready.page r.net_count ready.rows_long;
        near_x = wider _ good.good.near_x;
        near_y = wider _ good.good.near_y;
      }

  apart-whole : LaidOut r (parted (routed r pruned P))
  unfolding parted separated
  apart-whole =
      let Q = routed r pruned P in
      record {
        each = λ i h. parted-laid LOW HIGH Q good _ _ i (whole.each i h);
        near_x = separated-x LOW HIGH Q.wires Q.joins Q.j good;
        near_y = separated-y LOW HIGH Q.wires Q.joins Q.j good;
      }

pub laid_out : Layout
unfolding layout_page drawn
laid_out r pruned apart P asked placed clear ready = rw clear (by apart)
  where
    by : (b : Bool) → LaidOut r (cond b (parted (routed r pruned P)) (routed r pruned P))
    by true = apart-whole r pruned P asked placed clear ready
    by false = whole r pruned P asked placed clear ready
