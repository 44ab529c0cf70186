-- A net in the making stays good with every wire: the root wire and the branches.
use mathlib.Core.Path.{◌≡◌, refl, sym, ap, ◌∙◌}
use mathlib.Core.Bool.{Bool, true, false, cond}
use mathlib.Core.List.{List}
use mathlib.Core.Logic.{◌⊎◌}
use Prim.Native.Nat.{ℕ, ◌+◌, ◌-◌, ◌*◌, ◌<◌, ◌≤◌}
use native.Mathlib.Decide.{ℕ_discrete, dec_lt}
use native.Mathlib.Omega.{arith}
use borrow.Author.Tests.{eq-eqb, ne_eqb, eqb-true, eqb-false}
use lib.Dec.{eqb}
use lib.ListN.{length, get_or, take}
use Rattle.fixed.proofs.Bools.{and_left, and_right}
use Rattle.vertex.specs.Kinds.{kind_of, Junction}
use Rattle.vertex.specs.Pages.{holder, joiner, kind_at, carried, Within}
use Rattle.vertex.specs.declared.VertexKind.TheVariants.{WireEnd}
use Rattle.wire.specs.Ends.{CORNER, LINE, end_x_at, end_y_at, end_vertex, end_kind, stands, junction_end}
use Rattle.wire.specs.Lines.{Line}
use Rattle.wire.specs.Wires.{Vertices, Ends, Wires, wires, push_vertices, push_fallback, line_vertices, line_ends, fallback_vertices}
use Rattle.routing.specs.Branches.{tried, fits, line_wire, fallback_wire, route_wire, joined_end, route_branch, put_junction, join_branch, Limited}
use Rattle.routing.proofs.Limits.{limited}
use Rattle.routing.proofs.Joints.{joined_in}
use Rattle.routing.proofs.Tries.{fits-vertices, fits-ends}
use Rattle.net_laws.specs.Laid.{In, Laid, Offered, Long, Drawn, Wire, Leads, Reaches}
use Rattle.net_laws.specs.Good.{Good, Net, Row}
use Rattle.net_laws.proofs.Choices.{junction-first}
use Rattle.net_laws.proofs.Pages.{kept_on, kept_same, wired-on}
use Rattle.net_laws.proofs.Lines.{line-wire, fallback-wire}
use Rattle.net_laws.proofs.Rows.{Rows, rows-joined, rows-ended, rows-lettered, rows_of, put-length, put_other, put-holder, put-joiner, rows-put}

-- ---- a tried wire

module _ (Spot : ℕ → ℕ → Type 0) (lo hi : ℕ) (range : (x y : ℕ) → Spot x y → In lo hi x y) (W : Wires) (long : Long W)
    (near_x : Within lo hi W.page.n W.page.x) (near_y : Within lo hi W.page.n W.page.y) where
  module _ (L : Line) (D : Drawn Spot L) (sx sy ex ey : ℕ) (s : Spot sx sy) (e : Spot ex ey) (leads : Leads L sx sy ex ey) (along is_root : Bool) (J : Junction) where
    abbrev Made : Wires → Type 0
    Made X = Wire Spot lo hi W X sx sy ex ey J

    fallback-made : (fallback_wire sx sy ex ey along J W).number ≡ 0 → Made (fallback_wire sx sy ex ey along J W).wires
    unfolding fallback_wire
    fallback-made = by (fits W.page.n (fallback_vertices sx sy ex ey along) W.net.m 2) refl
      where
        by : (b : Bool) → b ≡ fits W.page.n (fallback_vertices sx sy ex ey along) W.net.m 2 → (cond b (tried 0 (push_fallback sx sy ex ey along J W)) (tried 15 W)).number ≡ 0
            → Made (cond b (tried 0 (push_fallback sx sy ex ey along J W)) (tried 15 W)).wires
        by true q z =
            fallback-wire Spot lo hi range W long near_x near_y sx sy ex ey s e along J (fits-vertices W.page.n (fallback_vertices sx sy ex ey along) W.net.m 2 true q refl)
            (fits-ends W.page.n (fallback_vertices sx sy ex ey along) W.net.m 2 true q refl)
        by false q z = absurd (omega arith)

    line_made : 0 < L.count → (line_wire L is_root J W).number ≡ 0 → Made (line_wire L is_root J W).wires
    unfolding line_wire
    line_made h = one (eqb L.count 1) refl
      where
        v : ℕ
        v = line_vertices L

        m : ℕ
        m = line_ends L

        by : (L.count ≡ 1 → ⊥) → (b : Bool) → b ≡ fits W.page.n v W.net.m m → (cond b (tried 0 (push_vertices L is_root J W)) (tried 15 W)).number ≡ 0
            → Made (cond b (tried 0 (push_vertices L is_root J W)) (tried 15 W)).wires
        by ne true q z =
            rw (← leads.from_x h, ← leads.from_y h, ← leads.to_x h, ← leads.to_y h)
            (line-wire Spot lo hi range W long near_x near_y L D is_root J (omega arith) (fits-vertices W.page.n v W.net.m m true q refl) (fits-ends W.page.n v W.net.m m true q refl))
        by ne false q z = absurd (omega arith)

        one : (b : Bool) → eqb L.count 1 ≡ b → (cond b (tried 14 W) (cond (fits W.page.n v W.net.m m) (tried 0 (push_vertices L is_root J W)) (tried 15 W))).number ≡ 0
            → Made (cond b (tried 14 W) (cond (fits W.page.n v W.net.m m) (tried 0 (push_vertices L is_root J W)) (tried 15 W))).wires
        one true t z = absurd (omega arith)
        one false t z = by (eqb-false _ _ t) (fits W.page.n v W.net.m m) refl z

    -- a wire that was made runs from s to e
    pub route-made : (route_wire L sx sy ex ey along is_root J W).number ≡ 0 → Made (route_wire L sx sy ex ey along is_root J W).wires
    unfolding route_wire
    route-made = by (eqb L.count 0) refl
      where
        some : (k : ℕ) → (k ≡ 0 → ⊥) → 0 < k
        some k h = omega arith

        by : (b : Bool) → eqb L.count 0 ≡ b → (cond b (fallback_wire sx sy ex ey along J W) (line_wire L is_root J W)).number ≡ 0
            → Made (cond b (fallback_wire sx sy ex ey along J W) (line_wire L is_root J W)).wires
        by true t z = fallback-made z
        by false t z = line_made (some L.count (eqb-false _ _ t)) z

-- ---- the whole page

module _ (Spot : ℕ → ℕ → Type 0) (lo hi : ℕ) where
  -- a net that has no wire yet
  pub net-begin : (P : Vertices) (E : Ends) (R : List ℕ) (j : ℕ) → Good lo hi P (take (3 * j) R) → P.n ≤ 512 → E.m ≡ 0 → Long (wires P E) → 768 ≤ length R → Net Spot lo hi P R j (wires P E) R j
  net-begin P E R j G few none long room =
      record {
        page = G;
        old = kept_same P.n P;
        old_rows = λ k h. refl;
        more = omega arith;
        more_rows = omega arith;
        own = λ i a b. absurd (omega arith);
        offered = record { spot = λ k a b. absurd (omega arith); from = λ k a b. absurd (omega arith); to = λ k a b. absurd (omega arith); kind = λ k a b. absurd (omega arith) };
        vertices_most = few;
        ends_most = omega arith;
        long = long;
        rows_long = room;
      }

  module _ (O : Vertices) (Q : List ℕ) (j₀ : ℕ) (W : Wires) (R : List ℕ) (j : ℕ) (N : Net Spot lo hi O Q j₀ W R j) (few : j ≤ 256) where
    rows_then : Rows W.page.n W.page.kinds R j
    rows_then = rows_of W.page.n W.page.kinds R j (omega (arith, N.rows_long)) N.page.joined N.page.ended N.page.lettered

    module _ (X : Wires) (sx sy ex ey : ℕ) (J : Junction) (U : Wire Spot lo hi W X sx sy ex ey J) (n-le : X.page.n ≤ 512) (m-le : X.net.m ≤ 4096) where
      rows-wire : Rows X.page.n X.page.kinds R j
      rows-wire =
          record {
            after = rows_then.after;
            inside = λ i h. omega (arith, rows_then.inside i h, U.laid.two);
            joins = λ i h. ap kind_of (U.laid.old.kind_kept (joiner R i) (rows_then.inside i h)) ∙ rows_then.joins i h;
            letter = rows_then.letter;
          }

      offered-wire : Offered Spot O.n X.page.n 0 X.net
      offered-wire =
          record {
            spot = λ k a h. spot k h (dec_lt k W.net.m);
            from = λ k a h. from k h (dec_lt k W.net.m);
            to = λ k a h. to k h (dec_lt k W.net.m);
            kind = λ k a h. kind k h (dec_lt k W.net.m);
          }
        where
          same : (w : ℕ) → w < 4 * W.net.m → get_or X.net.rows w 0 ≡ get_or W.net.rows w 0
          same w h = U.before.old w h

          spot : (k : ℕ) → k < X.net.m → Dec (k < W.net.m) → Spot (end_x_at X.net.rows k) (end_y_at X.net.rows k)
          spot k h (yes l) = rw (same (4 * k) (omega arith), same (4 * k + 1) (omega arith)) (N.offered.spot k (omega arith) l)
          spot k h (no l) = U.offered.spot k (omega arith) h

          from : (k : ℕ) → k < X.net.m → Dec (k < W.net.m) → O.n ≤ end_vertex X.net.rows k
          from k h (yes l) = rw (same (4 * k + 2) (omega arith)) (N.offered.from k (omega arith) l)
          from k h (no l) = omega (arith, U.offered.from k (omega arith) h, N.more)

          to : (k : ℕ) → k < X.net.m → Dec (k < W.net.m) → end_vertex X.net.rows k < X.page.n
          to k h (yes l) = rw (same (4 * k + 2) (omega arith)) (omega (arith, N.offered.to k (omega arith) l, U.laid.two))
          to k h (no l) = U.offered.to k (omega arith) h

          kind : (k : ℕ) → k < X.net.m → Dec (k < W.net.m) → (end_kind X.net.rows k ≡ CORNER) ⊎ (end_kind X.net.rows k ≡ LINE)
          kind k h (yes l) = rw (same (4 * k + 3) (omega arith)) (N.offered.kind k (omega arith) l)
          kind k h (no l) = U.offered.kind k (omega arith) h

      -- with a wire more that joins nothing
      pub net-wire : Net Spot lo hi O Q j₀ X R j
      net-wire =
          record {
            page =
                record {
                  wired = wired-on U.laid N.page.wired;
                  joined = rows-joined X.page.n X.page.kinds R j (omega (arith, N.rows_long)) rows-wire;
                  ended = rows-ended X.page.n X.page.kinds R j (omega (arith, N.rows_long)) rows-wire;
                  lettered = rows-lettered X.page.n X.page.kinds R j (omega (arith, N.rows_long)) rows-wire;
                  near_x = U.near_x;
                  near_y = U.near_y;
                };
            old = kept_on N.more N.old U.laid.old;
            old_rows = N.old_rows;
            more = omega (arith, N.more, U.laid.two);
            more_rows = N.more_rows;
            own = N.own;
            offered = offered-wire;
            vertices_most = n-le;
            ends_most = m-le;
            long = U.long;
            rows_long = N.rows_long;
          }

    -- with a junction more: v is a vertex of the net, and e joins there
    net-row : (v e k : ℕ) → j < 256 → O.n ≤ v → v + 1 < e → e < W.page.n → kind_at W.page.kinds e ≡ WireEnd (carried (eqb k 67)) → (k ≡ CORNER) ⊎ (k ≡ LINE) → Net Spot lo hi O Q j₀ W (put_junction R j v e k) (j + 1)
    net-row v e k h a b c d o =
        let g : 3 * j + 2 < length R = omega (arith, N.rows_long) in
        let S = rows-put R j v e k g b c d o rows_then in
        let l : 3 * (j + 1) ≤ length (put_junction R j v e k) = rw (put-length R j v e k) (omega arith) in
        record {
          page =
              record {
                wired = N.page.wired;
                joined = rows-joined W.page.n W.page.kinds (put_junction R j v e k) (j + 1) l S;
                ended = rows-ended W.page.n W.page.kinds (put_junction R j v e k) (j + 1) l S;
                lettered = rows-lettered W.page.n W.page.kinds (put_junction R j v e k) (j + 1) l S;
                near_x = N.page.near_x;
                near_y = N.page.near_y;
              };
          old = N.old;
          old_rows = λ w q. put_other R j v e k w (omega (arith, N.more_rows)) ∙ N.old_rows w q;
          more = N.more;
          more_rows = omega (arith, N.more_rows);
          own = λ i p q. own i p q (ℕ_discrete i j);
          offered = N.offered;
          vertices_most = N.vertices_most;
          ends_most = N.ends_most;
          long = N.long;
          rows_long = rw (put-length R j v e k) N.rows_long;
        }
      where
        own : (i : ℕ) → j₀ ≤ i → i < j + 1 → Dec (i ≡ j) → O.n ≤ holder (put_junction R j v e k) i
        own i p q (yes f) = rw (f, put-holder R j v e k (omega (arith, N.rows_long))) a
        own i p q (no f) = rw (put_other R j v e k (3 * i) (omega arith)) (N.own i p (omega arith))

-- ---- a branch

joined_line : (L : Line) (sx sy : ℕ) (E : Ends) → 0 < L.count → joined_end L sx sy E ≡ junction_end E.rows E.m (get_or L.x (L.count - 1) 0) (get_or L.y (L.count - 1) 0)
unfolding joined_end
joined_line L sx sy E h = rw (ne_eqb L.count 0 (λ e. omega arith))

-- the end that is joined stands where the line leads
reaches-leads : (L : Line) (sx sy : ℕ) (E : Ends) → Reaches L sx sy E → Leads L sx sy (end_x_at E.rows (joined_end L sx sy E)) (end_y_at E.rows (joined_end L sx sy E))
unfolding stands
reaches-leads L sx sy E r =
    record {
      from_x = r.from_x;
      from_y = r.from_y;
      to_x = λ h. rw (joined_line L sx sy E h) (sym (eqb-true _ _ (and_left _ (eqb (end_y_at E.rows (at h)) (get_or L.y (L.count - 1) 0)) (here h))));
      to_y = λ h. rw (joined_line L sx sy E h) (sym (eqb-true _ _ (and_right (eqb (end_x_at E.rows (at h)) (get_or L.x (L.count - 1) 0)) _ (here h))));
    }
  where
    at : 0 < L.count → ℕ
    at h = junction_end E.rows E.m (get_or L.x (L.count - 1) 0) (get_or L.y (L.count - 1) 0)

    here : (h : 0 < L.count) → stands E.rows (get_or L.x (L.count - 1) 0) (get_or L.y (L.count - 1) 0) (at h) ≡ true
    here h = let t = r.to h in (junction-first E.rows _ _ E.m t.0 t.1 t.2).here

module _ (Spot : ℕ → ℕ → Type 0) (lo hi : ℕ) (range : (x y : ℕ) → Spot x y → In lo hi x y) (O : Vertices) (Q : List ℕ) (j₀ : ℕ) (W : Wires) (R : List ℕ) (j : ℕ)
    (N : Net Spot lo hi O Q j₀ W R j) where
  -- the root wire, or any wire that joins nothing
  module _ (L : Line) (D : Drawn Spot L) (sx sy ex ey : ℕ) (s : Spot sx sy) (e : Spot ex ey) (leads : Leads L sx sy ex ey) (along is_root : Bool) (J : Junction) (few : j ≤ 256)
      (z : (route_wire L sx sy ex ey along is_root J W).number ≡ 0) where
    wire-made : Wire Spot lo hi W (route_wire L sx sy ex ey along is_root J W).wires sx sy ex ey J
    wire-made = route-made Spot lo hi range W N.long N.page.near_x N.page.near_y L D sx sy ex ey s e leads along is_root J z

    pub wire-laid : Laid W.page (route_wire L sx sy ex ey along is_root J W).wires.page sx sy ex ey J
    wire-laid = wire-made.laid

    pub wire-some : 0 < (route_wire L sx sy ex ey along is_root J W).wires.net.m
    wire-some = omega (arith, wire-made.some)

    pub wire-net : Net Spot lo hi O Q j₀ (route_wire L sx sy ex ey along is_root J W).wires R j
    wire-net =
        let l = limited W N.vertices_most N.ends_most L sx sy ex ey along is_root J in
        net-wire Spot lo hi O Q j₀ W R j N few (route_wire L sx sy ex ey along is_root J W).wires sx sy ex ey J wire-made l.vertices_most l.ends_most

  -- a branch, with its junction
  module _ (L : Line) (D : Drawn Spot L) (sx sy : ℕ) (s : Spot sx sy) (reach : Reaches L sx sy W.net) (along : Bool) (some : 0 < W.net.m) (few : j < 256)
      (z : (route_branch L sx sy along W).number ≡ 0) where
    abbrev e : ℕ
    e = joined_end L sx sy W.net

    abbrev J : Junction
    J = carried (eqb (end_kind W.net.rows e) CORNER)

    abbrev X : Wires
    X = (route_branch L sx sy along W).wires

    e-in : e < W.net.m
    e-in = joined_in L sx sy W.net some

    branch-made : Wire Spot lo hi W X sx sy (end_x_at W.net.rows e) (end_y_at W.net.rows e) J
    unfolding route_branch
    branch-made =
        route-made Spot lo hi range W N.long N.page.near_x N.page.near_y L D sx sy _ _ s (N.offered.spot e (omega arith) e-in) (reaches-leads L sx sy W.net reach) along false J z

    pub branch-laid : Laid W.page X.page sx sy (end_x_at W.net.rows e) (end_y_at W.net.rows e) J
    branch-laid = branch-made.laid

    pub branch-some : 0 < X.net.m
    branch-some = omega (arith, branch-made.some)

    branch-limited : Limited W (route_branch L sx sy along W)
    unfolding route_branch
    branch-limited = limited W N.vertices_most N.ends_most L sx sy _ _ along false _

    pub branch-net : Net Spot lo hi O Q j₀ X (join_branch L sx sy along W R j) (j + 1)
    unfolding join_branch
    branch-net =
        let A = net-wire Spot lo hi O Q j₀ W R j N (omega arith) X sx sy _ _ J branch-made branch-limited.vertices_most branch-limited.ends_most in
        let t = branch-laid.two in
        rw (eq-eqb (route_branch L sx sy along W).number 0 z)
        (net-row Spot lo hi O Q j₀ X R j A (omega arith) (end_vertex W.net.rows e) (X.page.n - 1) (end_kind W.net.rows e) few (N.offered.from e (omega arith) e-in)
        (omega (arith, N.offered.to e (omega arith) e-in)) (omega arith) branch-laid.to (N.offered.kind e (omega arith) e-in))

    pub branch_row : Row W X R (join_branch L sx sy along W R j) j
    unfolding join_branch
    branch_row =
        let v = end_vertex W.net.rows e in
        let k = end_kind W.net.rows e in
        let g : 3 * j + 2 < length R = omega (arith, N.rows_long) in
        rw (eq-eqb (route_branch L sx sy along W).number 0 z)
        (record { old = put_other R j v (X.page.n - 1) k; from = rw (put-holder R j v (X.page.n - 1) k g) (N.offered.to e (omega arith) e-in); last = put-joiner R j v (X.page.n - 1) k g })

-- a branch that is refused changes nothing
pub branch-refused : (L : Line) (sx sy : ℕ) (along : Bool) (W : Wires) (R : List ℕ) (j : ℕ) → W.page.n ≤ 512 → W.net.m ≤ 4096 → ((route_branch L sx sy along W).number ≡ 0 → ⊥)
    → ((route_branch L sx sy along W).wires ≡ W) × (join_branch L sx sy along W R j ≡ R)
branch-refused L sx sy along W R j a b h = (unfold route_branch in (limited W a b L sx sy _ _ along false _).as_before h, unfold join_branch in rw (ne_eqb (route_branch L sx sy along W).number 0 h))
