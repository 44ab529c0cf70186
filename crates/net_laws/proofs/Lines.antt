-- A wire along a line, and a fallback where there is none.
use mathlib.Core.Path.{◌≡◌, refl}
use mathlib.Core.Bool.{Bool, true, false, cond}
use mathlib.Core.List.{List}
use mathlib.Core.Logic.{inl, inr}
use Prim.Native.Nat.{ℕ, zero, suc, ◌+◌, ◌-◌, ◌<◌, ◌≤◌}
use native.Mathlib.Numerals.{add-one}
use native.Mathlib.Omega.{arith}
use borrow.Author.Tests.{eq-eqb, ne_eqb}
use lib.Dec.{eqb}
use lib.ListN.{get_or}
use Rattle.fixed.specs.Steps.{dummy}
use Rattle.vertex.specs.Pages.{Within}
use Rattle.vertex.specs.Kinds.{Junction}
use Rattle.vertex.specs.declared.VertexKind.TheVariants.{WireStart, Dummy, Normal, WireEnd}
use Rattle.wire.specs.Ends.{CORNER, LINE}
use Rattle.wire.specs.Lines.{Line, NORMAL, straight, kept}
use Rattle.wire.specs.Wires.{Vertices, Wires, wires, push_vertex, push_end, push_dummies, push_start, push_start_ends, corner_kind, push_corner, push_node, push_nodes, push_vertices, line_vertices, line_ends, corner_x, corner_y, bent, fallback_vertices, push_bend, push_fallback_wire, push_fallback}
use Rattle.wire.proofs.Counts.{kept-room}
use Rattle.wire.proofs.Pushes.{nodes-n}
use Rattle.routing.proofs.Limits.{nodes-m}
use Rattle.net_laws.specs.Laid.{In, Long, Drawn, Wire}
use Rattle.net_laws.proofs.Growth.{Growing, grow-end, grow-vertex, grow_last, grow-start}

-- a dummy lies between the two places
dummy-in : (lo hi a b : ℕ) → lo ≤ a → a ≤ hi → lo ≤ b → b ≤ hi → (lo ≤ dummy a b) × (dummy a b ≤ hi)
dummy-in lo hi a b p q r s = (omega arith, omega arith)

-- no node but a normal one is straight
not-straight : (kinds ways : List ℕ) (i : ℕ) → (get_or kinds i 0 ≡ NORMAL → ⊥) → straight kinds ways i ≡ false
unfolding straight
not-straight kinds ways i h = rw (ne_eqb _ _ h)

-- the wire's start, its dummies, and their ends
abbrev started : Line → Bool → Wires → Wires
started L is_root O = wires (push_start L is_root O.page) (push_start_ends L O.page.n O.net)

module _ (L : Line) (is_root : Bool) (J : Junction) (k : ℕ) (O : Wires) where
  vertices-then : (push_nodes L J k (started L is_root O)).page.n ≡ O.page.n + 3 + kept L.kinds L.ways k
  unfolding push_start push_dummies push_vertex
  vertices-then = omega (arith, nodes-n L J k (started L is_root O))

  ends-then : (push_nodes L J k (started L is_root O)).net.m ≡ O.net.m + 2 + k
  unfolding push_start_ends push_end
  ends-then = omega (arith, nodes-m L J k (started L is_root O))

module _ (Spot : ℕ → ℕ → Type 0) (lo hi : ℕ) (range : (x y : ℕ) → Spot x y → In lo hi x y) (O : Wires) (long : Long O)
    (near_x : Within lo hi O.page.n O.page.x) (near_y : Within lo hi O.page.n O.page.y) where
  module _ (L : Line) (D : Drawn Spot L) (is_root : Bool) (J : Junction) (two : 2 ≤ L.count)
      (n-fits : O.page.n + line_vertices L ≤ 512) (m-fits : O.net.m + line_ends L ≤ 4096) where
    abbrev sx : ℕ
    sx = get_or L.x 0 0

    abbrev sy : ℕ
    sy = get_or L.y 0 0

    abbrev Grows : Wires → Type 0
    Grows W = Growing Spot lo hi range O sx sy W

    line-start : Grows (started L is_root O)
    unfolding push_start push_dummies push_start_ends push_vertex push_end
    line-start =
        let a = D.spots 0 (omega arith) in
        let i = range _ _ a in
        let e = range _ _ (D.spots 1 (omega arith)) in
        let dx = dummy-in lo hi sx (get_or L.x 1 0) i.x_low i.x_high e.x_low e.x_high in
        let dy = dummy-in lo hi sy (get_or L.y 1 0) i.y_low i.y_high e.y_low e.y_high in
        let d : In lo hi (dummy sx (get_or L.x 1 0)) (dummy sy (get_or L.y 1 0)) = record { x_low = dx.0; x_high = dx.1; y_low = dy.0; y_high = dy.1 } in
        let G = grow-start Spot lo hi range O sx sy is_root a (omega arith) (omega arith) long near_x near_y in
        let G = grow-vertex Spot lo hi range O _ _ Dummy d refl refl (omega arith) G in
        let G = grow-vertex Spot lo hi range O _ _ Dummy d refl refl (omega arith) G in
        grow-end Spot lo hi range O sx sy (O.page.n + 2) CORNER a (omega arith) (omega arith) (omega arith) (inl refl) G

    -- what the first k nodes leave room for
    module _ (k : ℕ) (h : k + 1 < L.count) where
      end-room : (push_nodes L J k (started L is_root O)).net.m < 4096
      end-room = omega (arith, ends-then L is_root J k O)

      vertex-room : straight L.kinds L.ways (suc k) ≡ false → (push_nodes L J k (started L is_root O)).page.n < 512
      vertex-room t =
          let t : straight L.kinds L.ways (k + 1) ≡ false = rw add-one t in
          omega (arith, vertices-then L is_root J k O, kept-room L.kinds L.ways L.count k h t)

    node : (k : ℕ) → k + 2 < L.count → Grows (push_nodes L J k (started L is_root O)) → Grows (push_node L J (suc k) (push_nodes L J k (started L is_root O)))
    unfolding push_node push_corner corner_kind push_vertex
    node k h G = by (straight L.kinds L.ways (suc k)) refl
      where
        W : Wires
        W = push_nodes L J k (started L is_root O)

        px : ℕ
        px = get_or L.x (suc k) 0

        py : ℕ
        py = get_or L.y (suc k) 0

        here : Spot px py
        here = D.spots (suc k) (omega arith)

        by : (b : Bool) → straight L.kinds L.ways (suc k) ≡ b
            → Grows (cond b (wires W.page (push_end px py (W.page.n - 1) LINE W.net)) (push_corner px py (corner_kind (eqb (suc k + 1) L.count) J) W))
        by true t =
            let m = G.begun.more in
            grow-end Spot lo hi range O px py (W.page.n - 1) LINE here (omega arith) (omega arith) (end-room k (omega arith)) (inr refl) G
        by false t =
            let m = G.begun.more in
            rw (ne_eqb (suc k + 1) L.count (λ e. omega arith))
            (grow-end Spot lo hi range O px py W.page.n CORNER here (omega arith) (omega arith) (end-room k (omega arith)) (inl refl)
            (grow-vertex Spot lo hi range O px py Normal (range px py here) refl refl (vertex-room k (omega arith) t) G))

    nodes : (k : ℕ) → k + 1 < L.count → Grows (push_nodes L J k (started L is_root O))
    unfolding push_nodes
    nodes zero h = line-start
    nodes (suc k) h = node k (omega arith) (nodes k (omega arith))

    ends_at : (k : ℕ) → L.count - 1 ≡ suc k → Wire Spot lo hi O (push_nodes L J (suc k) (started L is_root O)) sx sy (get_or L.x (suc k) 0) (get_or L.y (suc k) 0) J
    unfolding push_nodes push_node push_corner corner_kind
    ends_at k e =
        let t : straight L.kinds L.ways (suc k) ≡ false = rw (← e) (not-straight L.kinds L.ways (L.count - 1) (D.last (omega arith))) in
        rw (t, eq-eqb (suc k + 1) L.count (omega arith))
        (grow_last Spot lo hi range O (get_or L.x (suc k) 0) (get_or L.y (suc k) 0) J (D.spots (suc k) (omega arith)) (vertex-room k (omega arith) t) (end-room k (omega arith)) (nodes k (omega arith)))

    -- a wire along a line of two nodes or more runs from its first node to its last
    pub line-wire : Wire Spot lo hi O (push_vertices L is_root J O) sx sy (get_or L.x (L.count - 1) 0) (get_or L.y (L.count - 1) 0) J
    unfolding push_vertices
    line-wire = by (L.count - 1) refl
      where
        by : (k : ℕ) → L.count - 1 ≡ k → Wire Spot lo hi O (push_nodes L J k (started L is_root O)) sx sy (get_or L.x k 0) (get_or L.y k 0) J
        by zero e = absurd (omega arith)
        by (suc k) e = ends_at k e

  -- a fallback runs from s to e
  module _ (sx sy ex ey : ℕ) (s : Spot sx sy) (e : Spot ex ey) (along : Bool) (J : Junction)
      (n-fits : O.page.n + fallback_vertices sx sy ex ey along ≤ 512) (m-fits : O.net.m + 2 ≤ 4096) where
    pub fallback-wire : Wire Spot lo hi O (push_fallback sx sy ex ey along J O) sx sy ex ey J
    unfolding push_fallback push_fallback_wire push_bend fallback_vertices push_vertex push_end
    fallback-wire = by (bent (corner_x along sx ex) (corner_y along sy ey) sx sy ex ey) n-fits
      where
        P : Vertices
        P = push_vertex sx sy (WireStart true) O.page

        turn : Vertices
        turn = push_vertex (corner_x along sx ex) (corner_y along sy ey) Normal P

        corner : (a : Bool) → In lo hi (corner_x a sx ex) (corner_y a sy ey)
        corner true = record { x_low = (range ex ey e).x_low; x_high = (range ex ey e).x_high; y_low = (range sx sy s).y_low; y_high = (range sx sy s).y_high }
        corner false = record { x_low = (range sx sy s).x_low; x_high = (range sx sy s).x_high; y_low = (range ex ey e).y_low; y_high = (range ex ey e).y_high }

        from : O.page.n < 512 → O.net.m < 4096 → Growing Spot lo hi range O sx sy (wires P (push_end sx sy O.page.n CORNER O.net))
        from h g = grow-start Spot lo hi range O sx sy true s h g long near_x near_y

        by : (b : Bool) → O.page.n + cond b 3 2 ≤ 512
            → Wire Spot lo hi O (wires (push_vertex ex ey (WireEnd J) (cond b turn P)) (push_end ex ey ((push_vertex ex ey (WireEnd J) (cond b turn P)).n - 1) CORNER (push_end sx sy O.page.n CORNER O.net))) sx sy ex ey J
        by true h =
            let z : O.page.n + 1 + 1 + 1 - 1 ≡ O.page.n + 1 + 1 = omega arith in
            rw z (grow_last Spot lo hi range O ex ey J e (omega arith) (omega arith) (grow-vertex Spot lo hi range O _ _ Normal (corner along) refl refl (omega arith) (from (omega arith) (omega arith))))
        by false h =
            let z : O.page.n + 1 + 1 - 1 ≡ O.page.n + 1 = omega arith in
            rw z (grow_last Spot lo hi range O ex ey J e (omega arith) (omega arith) (from (omega arith) (omega arith)))
