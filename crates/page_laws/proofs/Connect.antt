-- A net leaves a good page, refused or not, and at 0 each of its endpoints is touched.
use mathlib.Core.Path.{◌≡◌, refl, sym, ap, ◌∙◌}
use mathlib.Core.Bool.{Bool, true, false, cond}
use mathlib.Core.List.{List}
use Prim.Native.Nat.{ℕ, ◌+◌, ◌-◌, ◌*◌, ◌<◌, ◌≤◌}
use native.Mathlib.Omega.{arith}
use borrow.Author.Tests.{eqb-true, eqb-false, ltb-false}
use lib.Dec.{eqb, ltb}
use lib.ListN.{length, get_or, take, replicate, length-append, length-replicate, get_or-append}
use lib.Seq.{length-take-le, get_or-take, take_at}
use Rattle.fixed.specs.Up.{BIAS}
use Rattle.nodes.specs.Chains.{Place}
use Rattle.nodes.specs.Graph.{Graph}
use Rattle.zeros.specs.Zeros.{closed}
use Rattle.path_finding.specs.Places.{known}
use Rattle.vertex.specs.Kinds.{kind_of, start, end}
use Rattle.vertex.specs.Pages.{joiner, kind_at, Wired, Within}
use Rattle.wire.specs.Wires.{Vertices, vertices, wires}
use Rattle.net.specs.Nets.{root_from, root_to, root_wire, Branched, branched, net, refused, no_ends, route_net, kept, connect_net}
use Rattle.net_laws.specs.Laid.{Kept}
use Rattle.net_laws.specs.Good.{Good}
use Rattle.net_laws.proofs.Roots.{root}
use Rattle.net_laws.proofs.Rows.{rows_of}
use Rattle.page_laws.specs.Connected.{Ground, Page, Connected}
use Rattle.page_laws.proofs.Found.{known-place}
use Rattle.page_laws.proofs.Others.{others-two}
use Rattle.page_laws.proofs.Branches.{Sofar, root-sofar, all-sofar}

-- ---- a list with zeros behind its first n

module _ (z n : ℕ) (l : List ℕ) (h : n ≤ length l) where
  closed-length : length (closed z n l) ≡ length l
  unfolding closed
  closed-length = length-append (take n l) (replicate (length l - n) z) ∙ omega (arith, length-replicate (length l - n) z, length-take-le n l h)

  closed-low : (i : ℕ) → i < n → get_or (closed z n l) i 0 ≡ get_or l i 0
  unfolding closed
  closed-low i k = get_or-append (take n l) (replicate (length l - n) z) 0 i (omega (arith, length-take-le n l h)) ∙ get_or-take n l i 0 k

  closed-take : take n (closed z n l) ≡ take n l
  unfolding closed
  closed-take = take_at (take n l) (replicate (length l - n) z) n (length-take-le n l h)

-- ---- a page whose vertices are kept

within-kept : {lo hi n : ℕ} (l k : List ℕ) → ((i : ℕ) → i < n → get_or k i 0 ≡ get_or l i 0) → Within lo hi n l → Within lo hi n k
within-kept l k e W = record { low = λ i h. rw (e i h) (W.low i h); high = λ i h. rw (e i h) (W.high i h) }

wired-kept : {n : ℕ} (K L : List ℕ) → ((i : ℕ) → i < n → get_or L i 0 ≡ get_or K i 0) → Wired n K → Wired n L
wired-kept {n} K L e W =
    record {
      first = λ h. ap start (same 0 h) ∙ W.first h;
      next = λ i h. ap start (same (i + 1) h) ∙ W.next i h ∙ sym (ap end (same i (omega arith)));
      last = λ h. ap end (same (n - 1) (omega arith)) ∙ W.last h;
    }
  where
    same : (i : ℕ) → i < n → kind_at L i ≡ kind_at K i
    same i h = ap kind_of (e i h)

pub good-kept : {lo hi : ℕ} {J : List ℕ} (P Q : Vertices) → Q.n ≡ P.n → Kept P.n P Q → Good lo hi P J → Good lo hi Q J
good-kept {lo} {hi} {J} P Q e K G =
    rw (← e) at whole
  where
    whole : Good lo hi (vertices Q.x Q.y Q.kinds P.n) J
    whole =
        record {
          wired = wired-kept P.kinds Q.kinds K.kind_kept G.wired;
          joined = G.joined;
          ended = record { joins = λ j h. ap kind_of (K.kind_kept (joiner J j) (G.joined.inside j h)) ∙ G.ended.joins j h };
          lettered = G.lettered;
          near_x = within-kept P.x Q.x K.x_kept G.near_x;
          near_y = within-kept P.y Q.y K.y_kept G.near_y;
        }

-- ---- a refusal

module _ (lo hi : ℕ) (px py : List ℕ) (P : Vertices) (R : List ℕ) (j : ℕ) (page : Page lo hi P R j) where
  refused-connected : (k : ℕ) → (k ≡ 0 → ⊥) → Connected lo hi px py P R j (refused k P R j)
  unfolding refused
  refused-connected k ne =
      let r : 3 * j ≤ length R = omega (arith, page.rows_long, page.few, page.few_joins) in
      let m = page.roomy in
      let hx : P.n ≤ length P.x = omega (arith, page.few, m.of_x) in
      let hy : P.n ≤ length P.y = omega (arith, page.few, m.of_y) in
      let hk : P.n ≤ length P.kinds = omega (arith, page.few, m.of_kinds) in
      let Q = vertices (closed BIAS P.n P.x) (closed BIAS P.n P.y) (closed 0 P.n P.kinds) P.n in
      let K : Kept P.n P Q = record { x_kept = closed-low BIAS P.n P.x hx; y_kept = closed-low BIAS P.n P.y hy; kind_kept = closed-low 0 P.n P.kinds hk } in
      record {
        page =
            record {
              good = rw (closed-take 0 (3 * j) R r) (good-kept P Q refl K page.good);
              few = page.few;
              few_joins = page.few_joins;
              roomy = record { of_x = rw (closed-length BIAS P.n P.x hx) m.of_x; of_y = rw (closed-length BIAS P.n P.y hy) m.of_y; of_kinds = rw (closed-length 0 P.n P.kinds hk) m.of_kinds };
              rows_long = rw (closed-length 0 (3 * j) R r) page.rows_long;
            };
        old = K;
        old_rows = closed-low 0 (3 * j) R r;
        more = omega arith;
        more_rows = omega arith;
        most_rows = omega arith;
        own = λ i a b. absurd (omega arith);
        touched = λ z. absurd (ne z);
        none = λ z. (refl, refl);
      }

  -- ---- the wires

  module _ (G : Graph) (ground : Ground lo hi G) (some : 0 < G.count) (two : 2 ≤ length px) (places : (i : ℕ) → i < length px → Place G (get_or px i 0) (get_or py i 0)) where
    abbrev a : ℕ
    a = root_from px py

    abbrev b : ℕ
    b = root_to px py

    routed-sofar : (route_net G px py P R j).number ≡ 0 → Sofar lo hi G px py P R j a b (length px) (route_net G px py P R j)
    unfolding route_net
    routed-sofar =
        let q = root px py (length px) two in
        all-sofar lo hi G px py P R j a b ground some page places (length px) (omega arith) (branched (root_wire G px py a b (wires P no_ends)).number (root_wire G px py a b (wires P no_ends)).wires R j)
        (λ z. root-sofar lo hi G px py P R j a b ground some page places q.first_member q.second_member z)

    made-connected : (S : Branched) → Sofar lo hi G px py P R j a b (length px) S → Connected lo hi px py P R j (net 0 S.wires.page S.joins S.j)
    made-connected S F =
        let N = F.net in
        let q = root px py (length px) two in
        record {
          page = record { good = N.page; few = N.vertices_most; few_joins = omega (arith, F.room); roomy = N.long.page; rows_long = N.rows_long };
          old = N.old;
          old_rows = N.old_rows;
          more = N.more;
          more_rows = N.more_rows;
          most_rows = omega (arith, F.count, others-two a b (length px) q.first_member q.second_member q.two);
          own = λ i p q. (N.own i p q, (rows_of S.wires.page.n S.wires.page.kinds S.joins S.j (omega (arith, F.room, N.vertices_most, N.rows_long)) N.page.joined N.page.ended N.page.lettered).inside i q);
          touched = λ z. F.each;
          none = λ z. absurd (z refl);
        }

    kept-connected : Connected lo hi px py P R j (kept (route_net G px py P R j) P R j)
    unfolding kept
    kept-connected = by (eqb (route_net G px py P R j).number 0) refl
      where
        S : Branched
        S = route_net G px py P R j

        by : (t : Bool) → eqb S.number 0 ≡ t → Connected lo hi px py P R j (cond t (net 0 S.wires.page S.joins S.j) (refused S.number P R j))
        by true e = made-connected S (routed-sofar (eqb-true S.number 0 e))
        by false e = refused-connected S.number (eqb-false S.number 0 e)

  -- ---- the net

  pub connect : (G : Graph) → Ground lo hi G → Connected lo hi px py P R j (connect_net G px py P R j)
  unfolding connect_net
  connect G ground = by (ltb (length px) 2) refl (known G.xs G.ys G.count px py (length px)) refl
    where
      by : (s : Bool) → ltb (length px) 2 ≡ s → (t : Bool) → known G.xs G.ys G.count px py (length px) ≡ t
          → Connected lo hi px py P R j (cond s (refused 12 P R j) (cond t (kept (route_net G px py P R j) P R j) (refused 13 P R j)))
      by true e t f = refused-connected 12 (λ z. omega arith)
      by false e false f = refused-connected 13 (λ z. omega arith)
      by false e true f =
          let two = ltb-false (length px) 2 e in
          let places = known-place G px py f in
          kept-connected G ground (omega (arith, (places 0 (omega arith)).at.inside)) two places
