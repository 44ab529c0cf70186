-- Each net of a page by its row: before separation, and after.
use mathlib.Core.Path.{◌≡◌, refl, ◌∙◌}
use mathlib.Core.List.{List, ◌++◌}
use Prim.Native.Nat.{ℕ, ◌+◌, ◌-◌, ◌*◌, ◌<◌, ◌≤◌}
use native.Mathlib.Omega.{arith}
use lib.ListN.{length, take, drop, get_or-append}
use lib.Seq.{take_at}
use Rattle.nodes.specs.Graph.{Graph}
use Rattle.vertex.specs.Pages.{Within}
use Rattle.fixup.specs.Promises.{REACH}
use Rattle.wire.specs.Wires.{Vertices}
use Rattle.net.specs.Nets.{Net}
use Rattle.page_laws.specs.Connected.{Ground, Touched}
use Rattle.page_laws.specs.Connected as Connected
use Rattle.page_laws.specs.Separated.{Separated}
use Rattle.page_laws.specs.Nets as Nets
use Rattle.page_laws.proofs.Separate.{page-bounded, endpoint-stays}
use Rattle.page_laws.proofs.Theorems.{all-nets}
use Rattle.layout.specs.Layout.{NET_ROW, Page, nets_to, parted}
use Rattle.layout.specs.Separated.{apart, separated}
use Rattle.layout.proofs.Nets.{xs_of, ys_of, same-nets}
use Rattle.layout_laws.specs.Laid.{NetLaid}
use Rattle.layout_laws.proofs.Rows.{RowOf, rows_are}

within-front : {lo hi n : ℕ} (l m : List ℕ) → length l ≡ n → Within lo hi n l → Within lo hi n (l ++ m)
within-front {n = n} l m e W =
    record { low = λ i h. rw (get_or-append l m 0 i (omega arith)) (W.low i h); high = λ i h. rw (get_or-append l m 0 i (omega arith)) (W.high i h) }

-- a net that stands on the page, by its row
laid_by : (px py : List ℕ) (A B N : Net) (Q : Page) (i : ℕ) → N.page ≡ Q.wires → N.joins ≡ Q.joins → N.j ≡ Q.j → RowOf Q.nets i A B → Nets.Stands px py A B N
    → NetLaid px py i Q
laid_by px py A B N Q i ep er ej T S =
    let z : A.page.n + (B.page.n - A.page.n) ≡ B.page.n = omega (arith, S.more) in
    let y : A.j + (B.j - A.j) ≡ B.j = omega (arith, S.more_rows) in
    record {
      inside = rw (T.first_is, T.count_is, z, ← ep) S.within;
      inside_joins = rw (T.begin_is, T.joins_is, y, ← ej) S.within_rows;
      own = rw (T.begin_is, T.joins_is, T.first_is, T.count_is, y, z, ← er) S.own;
      touched = rw (T.number_is, T.first_is, T.count_is, z, ← ep) S.touched;
      none = λ h. let t = S.none (λ e. h (T.number_is ∙ e)) in (T.count_is ∙ omega (arith, t.0), T.joins_is ∙ omega (arith, t.1));
    }

-- the first k nets
module _ (lo hi : ℕ) (G : Graph) (ground : Ground lo hi G) (I E : List ℕ) (e : ℕ) (P : Page) (page : Connected.Page lo hi P.wires P.joins P.j) (k : ℕ) (long : k * NET_ROW ≤ length P.nets) where
  pub nets-laid : (i : ℕ) → i < k → NetLaid (xs_of G I E e i) (ys_of G I E e i) i (nets_to G I E e k P)
  nets-laid i h =
      let s = same-nets G I E e P k in
      laid_by (xs_of G I E e i) (ys_of G I E e i) _ _ _ (nets_to G I E e k P) i s.page_is s.joins_is s.j_is (rows_are G I E e P k long i h)
      ((all-nets lo hi G ground (xs_of G I E e) (ys_of G I E e) P.wires P.joins P.j page k).each i h)

-- ---- separation

module _ (lo hi : ℕ) (P : Vertices) (R : List ℕ) (j : ℕ) (page : Connected.Page lo hi P R j) where
  pub separated-page : Separated P (separated R j P) (take (3 * j) R)
  unfolding separated apart
  separated-page =
      let b = page-bounded lo hi P R j page in
      record { all = refl; kinds_kept = λ i h. refl; x_is = take_at _ (drop P.n P.x) P.n b.xs; y_is = take_at _ (drop P.n P.y) P.n b.ys }

  pub separated-x : Within (lo - REACH) (hi + REACH) P.n (separated R j P).x
  unfolding separated apart
  separated-x = within-front _ (drop P.n P.x) (page-bounded lo hi P R j page).xs (page-bounded lo hi P R j page).near_x

  pub separated-y : Within (lo - REACH) (hi + REACH) P.n (separated R j P).y
  unfolding separated apart
  separated-y = within-front _ (drop P.n P.y) (page-bounded lo hi P R j page).ys (page-bounded lo hi P R j page).near_y

module _ (lo hi : ℕ) (Q : Page) (page : Connected.Page lo hi Q.wires Q.joins Q.j) where
  pub parted-laid : (px py : List ℕ) (i : ℕ) → NetLaid px py i Q → NetLaid px py i (parted Q)
  unfolding parted separated
  parted-laid px py i L =
      record {
        inside = L.inside;
        inside_joins = L.inside_joins;
        own = L.own;
        touched = λ z e h. endpoint-stays lo hi Q.wires Q.joins Q.j page (separated Q.joins Q.j Q.wires) (separated-page lo hi Q.wires Q.joins Q.j page) _ _ _ _ L.inside (L.touched z e h);
        none = L.none;
      }
