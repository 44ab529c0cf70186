-- All nets of a page, one after another.
use mathlib.Core.Path.{◌≡◌}
use mathlib.Core.List.{List}
use Prim.Native.Nat.{ℕ, zero, suc, ◌+◌, ◌*◌, ◌<◌, ◌≤◌}
use native.Mathlib.Decide.{ℕ_discrete}
use native.Mathlib.Omega.{arith}
use Rattle.nodes.specs.Graph.{Graph}
use Rattle.vertex.specs.Pages.{holder, joiner}
use Rattle.wire.specs.Wires.{Vertices}
use Rattle.net.specs.Nets.{Net}
use Rattle.page_laws.specs.Connected.{Ground, Page, Connected}
use Rattle.page_laws.specs.Nets.{nets_to, Stands, Routed}
use Rattle.page_laws.proofs.Connect.{connect}
use Rattle.page_laws.proofs.Touching.{touched-kept}

-- the net that was connected last
stands-last : {lo hi : ℕ} (px py : List ℕ) (A B : Net) → Connected lo hi px py A.page A.joins A.j B → Stands px py A B B
stands-last px py A B C = record { more = C.more; more_rows = C.more_rows; within = omega arith; within_rows = omega arith; own = C.own; touched = C.touched; none = C.none }

-- and one before it
stands_on : {lo hi : ℕ} (px py qx qy : List ℕ) (A B M N : Net) → Connected lo hi qx qy M.page M.joins M.j N → Stands px py A B M → Stands px py A B N
stands_on px py qx qy A B M N C S =
    record {
      more = S.more;
      more_rows = S.more_rows;
      within = omega (arith, S.within, C.more);
      within_rows = omega (arith, S.within_rows, C.more_rows);
      own = own;
      touched = λ z i h. touched-kept M.page N.page S.within C.old (S.touched z i h);
      none = S.none;
    }
  where
    own : (r : ℕ) → A.j ≤ r → r < B.j → (A.page.n ≤ holder N.joins r) × (joiner N.joins r < B.page.n)
    own r a b =
        let l = S.within_rows in
        rw (C.old_rows (3 * r) (omega arith), C.old_rows (3 * r + 1) (omega arith)) (S.own r a b)

module _ (lo hi : ℕ) (G : Graph) (ground : Ground lo hi G) (px py : ℕ → List ℕ) (P : Vertices) (R : List ℕ) (j : ℕ) (page : Page lo hi P R j) where
  abbrev after : ℕ → Net
  after k = nets_to G px py k P R j

  next : (k : ℕ) → Page lo hi (after k).page (after k).joins (after k).j → Connected lo hi (px k) (py k) (after k).page (after k).joins (after k).j (after (suc k))
  unfolding nets_to
  next k Q = connect lo hi (px k) (py k) (after k).page (after k).joins (after k).j Q G ground

  begin : Page lo hi (after 0).page (after 0).joins (after 0).j
  unfolding nets_to
  begin = page

  pub routed : (k : ℕ) → Routed lo hi G px py k P R j
  routed zero = record { page = begin; each = λ i h. absurd (omega arith) }
  routed (suc k) =
      let Q = routed k in
      let C = next k Q.page in
      record { page = C.page; each = λ i h. by i h (ℕ_discrete i k) C Q.each }
    where
      by : (i : ℕ) → i < suc k → Dec (i ≡ k) → Connected lo hi (px k) (py k) (after k).page (after k).joins (after k).j (after (suc k))
          → ((i : ℕ) → i < k → Stands (px i) (py i) (after i) (after (suc i)) (after k)) → Stands (px i) (py i) (after i) (after (suc i)) (after (suc k))
      by i h (yes e) C on = rw e (stands-last (px k) (py k) (after k) (after (suc k)) C)
      by i h (no e) C on = stands_on (px i) (py i) (px k) (py k) (after i) (after (suc i)) (after k) (after (suc k)) C (on i (omega arith))
