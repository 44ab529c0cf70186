-- The wires of a net: after the root wire and the branches of the first k endpoints the page is good, and each of these endpoints is touched.
use mathlib.Core.Path.{◌≡◌, refl, sym, ap, ◌∙◌}
use mathlib.Core.Bool.{Bool, true, false, cond, not, ◌||◌}
use mathlib.Core.List.{List, [], ◌∷◌}
use mathlib.Core.Logic.{◌⊎◌, inl, inr}
use Prim.Native.Nat.{ℕ, zero, suc, ◌+◌, ◌-◌, ◌*◌, ◌<◌, ◌≤◌}
use native.Mathlib.Decide.{ℕ_discrete}
use native.Mathlib.Nat.{le_refl}
use native.Mathlib.Omega.{arith}
use borrow.Author.Tests.{eq-eqb, eqb-true, eqb-false}
use lib.Dec.{eqb}
use lib.ListN.{length, get_or, replicate, length-replicate}
use Rattle.fixed.proofs.Bools.{and_both}
use Rattle.nodes.specs.Chains.{Place}
use Rattle.nodes.specs.Graph.{Graph}
use Rattle.path_finding.specs.Line.{table}
use Rattle.path_finding.proofs.Lines.{table-length, table_at}
use Rattle.std.specs.Prelude.{None}
use Rattle.wire.specs.Ends.{end_x_at, end_y_at, stands}
use Rattle.wire.specs.Lines.{Line}
use Rattle.wire.specs.Wires.{Vertices, Ends, wires}
use Rattle.routing.specs.Branches.{route_wire, route_branch}
use Rattle.net.specs.Nets.{found_line, along, root_wire, Branched, branched, end_word, branch_line, branch_from, branch_at, branches_to, END_WORDS, no_ends}
use Rattle.net_laws.specs.Laid.{In, Drawn, Leads, Reaches}
use Rattle.net_laws.specs.Good.{Net}
use Rattle.net_laws.proofs.Nets.{net-begin, wire-laid, wire-some, wire-net, branch-laid, branch-some, branch-net}
use Rattle.page_laws.specs.Connected.{Ground, Page, Touched}
use Rattle.page_laws.proofs.Found.{Ending, found-drawn, found_right}
use Rattle.page_laws.proofs.Others.{others, others-up}
use Rattle.page_laws.proofs.Touching.{touched-on, touched-start, touched-end}

-- ---- lines

module _ (lo hi : ℕ) (G : Graph) (ground : Ground lo hi G) (some : 0 < G.count) where
  -- the nodes' places lie from lo to hi
  pub range : (x y : ℕ) → Place G x y → In lo hi x y
  range x y p =
      let v = p.node in
      let h = p.at.inside in
      record {
        x_low = rw p.at.at_x at (ground.near_x.low v h);
        x_high = rw p.at.at_x at (ground.near_x.high v h);
        y_low = rw p.at.at_y at (ground.near_y.low v h);
        y_high = rw p.at.at_y at (ground.near_y.high v h);
      }

  -- the root wire's line leads from one place to the other
  root-leads : (x y ex ey : ℕ) → Leads (found_line G x y (ex ∷ []) (ey ∷ [])) x y ex ey
  root-leads x y ex ey =
      record { from_x = λ h. (right h).0; from_y = λ h. (right h).1; to_x = λ h. to_x (right h).2; to_y = λ h. to_y (right h).2 }
    where
      right : 0 < (found_line G x y (ex ∷ []) (ey ∷ [])).count → (get_or (found_line G x y (ex ∷ []) (ey ∷ [])).x 0 0 ≡ x) × (get_or (found_line G x y (ex ∷ []) (ey ∷ [])).y 0 0 ≡ y) × Ending (found_line G x y (ex ∷ []) (ey ∷ [])) (ex ∷ []) (ey ∷ [])
      right h = found_right G (ground.ready some) x y (ex ∷ []) (ey ∷ []) h

      to_x : (t : Ending (found_line G x y (ex ∷ []) (ey ∷ [])) (ex ∷ []) (ey ∷ [])) → get_or (found_line G x y (ex ∷ []) (ey ∷ [])).x ((found_line G x y (ex ∷ []) (ey ∷ [])).count - 1) 0 ≡ ex
      to_x t = let z : t.index ≡ 0 = omega (arith, t.listed) in t.x_is ∙ ap (λ (i : ℕ). get_or (ex ∷ []) i 0) z

      to_y : (t : Ending (found_line G x y (ex ∷ []) (ey ∷ [])) (ex ∷ []) (ey ∷ [])) → get_or (found_line G x y (ex ∷ []) (ey ∷ [])).y ((found_line G x y (ex ∷ []) (ey ∷ [])).count - 1) 0 ≡ ey
      to_y t = let z : t.index ≡ 0 = omega (arith, t.listed) in t.y_is ∙ ap (λ (i : ℕ). get_or (ey ∷ []) i 0) z

  -- a branch's line leads to one of the net's ends
  branch-reaches : (x y : ℕ) (E : Ends) → Reaches (branch_line G x y E) x y E
  unfolding branch_line end_word stands
  branch-reaches x y E =
      record { from_x = λ h. (right h).0; from_y = λ h. (right h).1; to = λ h. to (right h).2 }
    where
      exs : List ℕ
      exs = table (end_word 0 E.rows) E.m

      eys : List ℕ
      eys = table (end_word 1 E.rows) E.m

      L : Line
      L = found_line G x y exs eys

      right : 0 < L.count → (get_or L.x 0 0 ≡ x) × (get_or L.y 0 0 ≡ y) × Ending L exs eys
      right h = found_right G (ground.ready some) x y exs eys h

      word-x : (i : ℕ) → i < E.m → get_or exs i 0 ≡ end_x_at E.rows i
      word-x i h = table_at (end_word 0 E.rows) E.m i h ∙ (let z : 4 * i + 0 ≡ 4 * i = omega arith in ap (λ (k : ℕ). get_or E.rows k 0) z)

      word-y : (i : ℕ) → i < E.m → get_or eys i 0 ≡ end_y_at E.rows i
      word-y i h = table_at (end_word 1 E.rows) E.m i h

      to : Ending L exs eys → (i : ℕ) × (i < E.m) × (stands E.rows (get_or L.x (L.count - 1) 0) (get_or L.y (L.count - 1) 0) i ≡ true)
      to t =
          let h : t.index < E.m = rw (table-length (end_word 0 E.rows) E.m) at t.listed in
          (t.index, h, and_both (eq-eqb _ _ (sym (t.x_is ∙ word-x t.index h))) (eq-eqb _ _ (sym (t.y_is ∙ word-y t.index h))))

  branch-drawn : (x y : ℕ) (E : Ends) → Drawn (Place G) (branch_line G x y E)
  unfolding branch_line
  branch-drawn x y E = found-drawn G (ground.ready some) x y _ _

-- ---- the wires so far

long-enough : (k : ℕ) → k ≤ length (replicate {A = ℕ} k 0)
long-enough k = rw (length-replicate {A = ℕ} k 0) (le_refl k)

module _ (lo hi : ℕ) (G : Graph) (px py : List ℕ) (P : Vertices) (R : List ℕ) (j a b : ℕ) where
  -- after the first k endpoints
  pub record Sofar (k : ℕ) (S : Branched) : Type 0 where
    pub net : Net (Place G) lo hi P R j S.wires S.joins S.j
    pub some : 0 < S.wires.net.m
    pub first : Touched P.n S.wires.page.n S.wires.page (get_or px a 0) (get_or py a 0)
    pub second : Touched P.n S.wires.page.n S.wires.page (get_or px b 0) (get_or py b 0)
    pub each : (i : ℕ) → i < k → Touched P.n S.wires.page.n S.wires.page (get_or px i 0) (get_or py i 0)
    pub count : S.j ≤ j + others a b k
    pub room : 2 * S.j + 2 ≤ S.wires.page.n

  module _ (ground : Ground lo hi G) (some : 0 < G.count) (page : Page lo hi P R j) (places : (i : ℕ) → i < length px → Place G (get_or px i 0) (get_or py i 0)) where
    begun : Net (Place G) lo hi P R j (wires P no_ends) R j
    unfolding no_ends
    begun = net-begin (Place G) lo hi P no_ends R j page.good page.few refl (record { page = page.roomy; net = long-enough END_WORDS }) page.rows_long

    module _ (a_in : a < length px) (b-in : b < length px) (z : (root_wire G px py a b (wires P no_ends)).number ≡ 0) where
      pub root-sofar : Sofar 0 (branched (root_wire G px py a b (wires P no_ends)).number (root_wire G px py a b (wires P no_ends)).wires R j)
      unfolding root_wire
      root-sofar =
          let sx = get_or px a 0 in
          let sy = get_or py a 0 in
          let ex = get_or px b 0 in
          let ey = get_or py b 0 in
          let L = found_line G sx sy (ex ∷ []) (ey ∷ []) in
          let W = wires P no_ends in
          let D = found-drawn G (ground.ready some) sx sy (ex ∷ []) (ey ∷ []) in
          let leads = root-leads lo hi G ground some sx sy ex ey in
          let r = range lo hi G ground some in
          let joins : j ≤ 256 = omega (arith, page.few, page.few_joins) in
          let laid = wire-laid (Place G) lo hi r P R j W R j begun L D sx sy ex ey (places a a_in) (places b b-in) leads (along G sx sy) true None joins z in
          let X = (route_wire L sx sy ex ey (along G sx sy) true None W).wires.page in
          record {
            net = wire-net (Place G) lo hi r P R j W R j begun L D sx sy ex ey (places a a_in) (places b b-in) leads (along G sx sy) true None joins z;
            some = wire-some (Place G) lo hi r P R j W R j begun L D sx sy ex ey (places a a_in) (places b b-in) leads (along G sx sy) true None joins z;
            first = touched-start P.n P X sx sy ex ey (omega arith) laid;
            second = touched-end P.n P X sx sy ex ey (omega arith) laid;
            each = λ i h. absurd (omega arith);
            count = omega arith;
            room = omega (arith, laid.two, page.few_joins);
          }

    -- one branch more
    module _ (k : ℕ) (k-in : k < length px) (S : Branched) (F : Sofar k S) where
      abbrev x : ℕ
      x = get_or px k 0

      abbrev y : ℕ
      y = get_or py k 0

      branch-sofar : (eqb k a || eqb k b) ≡ false → (branch_from G x y S).number ≡ 0 → Sofar (suc k) (branch_from G x y S)
      unfolding branch_from
      branch-sofar other z =
          let L = branch_line G x y S.wires.net in
          let D = branch-drawn lo hi G ground some x y S.wires.net in
          let reach = branch-reaches lo hi G ground some x y S.wires.net in
          let r = range lo hi G ground some in
          let room : S.j < 256 = omega (arith, F.room, F.net.vertices_most) in
          let laid = branch-laid (Place G) lo hi r P R j S.wires S.joins S.j F.net L D x y (places k k-in) reach (along G x y) F.some room z in
          let net = branch-net (Place G) lo hi r P R j S.wires S.joins S.j F.net L D x y (places k k-in) reach (along G x y) F.some room z in
          let X = (route_branch L x y (along G x y) S.wires).wires.page in
          let le : S.wires.page.n ≤ X.n = omega (arith, laid.two) in
          let up : j + others a b (suc k) ≡ j + others a b k + 1 = rw other (omega arith) in
          rw (eq-eqb (route_branch L x y (along G x y) S.wires).number 0 z)
          (record {
            net = net;
            some = branch-some (Place G) lo hi r P R j S.wires S.joins S.j F.net L D x y (places k k-in) reach (along G x y) F.some room z;
            first = touched-on S.wires.page X le laid.old F.first;
            second = touched-on S.wires.page X le laid.old F.second;
            each = λ i h. here i (ℕ_discrete i k) X (touched-start P.n S.wires.page X x y _ _ F.net.more laid) (λ l. touched-on S.wires.page X le laid.old (F.each i l)) h;
            count = omega (arith, F.count);
            room = omega (arith, F.room, laid.two);
          })
        where
          here : (i : ℕ) → Dec (i ≡ k) → (X : Vertices) → Touched P.n X.n X x y → (i < k → Touched P.n X.n X (get_or px i 0) (get_or py i 0)) → i < suc k → Touched P.n X.n X (get_or px i 0) (get_or py i 0)
          here i (yes e) X t on h = rw e t
          here i (no e) X t on h = on (omega arith)

      -- the endpoint k: a branch unless it is of the root pair
      at-root : (k ≡ a) ⊎ (k ≡ b) → Sofar (suc k) S
      at-root o =
          record { net = F.net; some = F.some; first = F.first; second = F.second; each = λ i h. each o i h (ℕ_discrete i k); count = omega (arith, F.count, others-up a b k); room = F.room }
        where
          each : (k ≡ a) ⊎ (k ≡ b) → (i : ℕ) → i < suc k → Dec (i ≡ k) → Touched P.n S.wires.page.n S.wires.page (get_or px i 0) (get_or py i 0)
          each (inl e) i h (yes q) = rw (q, e) F.first
          each (inr e) i h (yes q) = rw (q, e) F.second
          each o i h (no q) = F.each i (omega arith)

    at-sofar : (k : ℕ) → k < length px → (S : Branched) → (S.number ≡ 0 → Sofar k S) → (branch_at G px py a b k S).number ≡ 0 → Sofar (suc k) (branch_at G px py a b k S)
    unfolding branch_at
    at-sofar k h S F = by (eqb S.number 0) refl (eqb k a) refl (eqb k b) refl
      where
        made : Branched
        made = branch_from G (get_or px k 0) (get_or py k 0) S

        by : (t : Bool) → eqb S.number 0 ≡ t → (p : Bool) → eqb k a ≡ p → (q : Bool) → eqb k b ≡ q
            → (cond (not t || (p || q)) S made).number ≡ 0 → Sofar (suc k) (cond (not t || (p || q)) S made)
        by false et p ep q eq z = absurd (eqb-false S.number 0 et z)
        by true et true ep q eq z = at-root k h S (F z) (inl (eqb-true k a ep))
        by true et false ep true eq z = at-root k h S (F z) (inr (eqb-true k b eq))
        by true et false ep false eq z = branch-sofar k h S (F (eqb-true S.number 0 et)) (rw (ep, eq)) z

    pub all-sofar : (k : ℕ) → k ≤ length px → (S : Branched) → (S.number ≡ 0 → Sofar 0 S) → (branches_to G px py a b k S).number ≡ 0 → Sofar k (branches_to G px py a b k S)
    unfolding branches_to
    all-sofar zero h S F = F
    all-sofar (suc k) h S F = at-sofar k h (branches_to G px py a b k S) (all-sofar k (omega arith) S F)
