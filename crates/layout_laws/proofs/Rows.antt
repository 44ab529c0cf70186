-- The row of a net, once written, stays.
use mathlib.Core.Path.{◌≡◌, refl, ap, ◌∙◌}
use mathlib.Core.List.{List}
use Prim.Native.Nat.{ℕ, zero, suc, ◌+◌, ◌-◌, ◌*◌, ◌<◌, ◌≤◌}
use native.Mathlib.Decide.{ℕ_discrete}
use native.Mathlib.Omega.{arith}
use lib.ListN.{length, get_or, set, length-set}
use lib.Seq.{get_or-set_same, get_or-set_other}
use Rattle.nodes.specs.Graph.{Graph}
use Rattle.anchors.specs.Records.{NET}
use Rattle.net.specs.Nets.{Net}
use Rattle.page_laws.specs.Nets as Nets
use Rattle.layout.specs.Layout.{NET_ROW, put_net, Page, with_net, net_of, nets_to}
use Rattle.layout.proofs.Nets.{xs_of, ys_of, same-nets}

module _ (R : List ℕ) (i a b c d e : ℕ) where
  -- the row half written
  abbrev one : List ℕ
  one = set R (i * NET_ROW) a

  abbrev two : List ℕ
  two = set one (i * NET_ROW + 1) b

  abbrev three : List ℕ
  three = set two (i * NET_ROW + 2) c

  abbrev four : List ℕ
  four = set three (i * NET_ROW + 3) d

  put-length : length (put_net R i a b c d e) ≡ length R
  unfolding put_net
  put-length = simp length-set

  put-before : (w : ℕ) → w < i * NET_ROW → get_or (put_net R i a b c d e) w 0 ≡ get_or R w 0
  unfolding put_net
  put-before w l =
      get_or-set_other four (i * NET_ROW + 4) w e 0 (λ q. omega arith)
      ∙ get_or-set_other three (i * NET_ROW + 3) w d 0 (λ q. omega arith)
      ∙ get_or-set_other two (i * NET_ROW + 2) w c 0 (λ q. omega arith)
      ∙ get_or-set_other one (i * NET_ROW + 1) w b 0 (λ q. omega arith)
      ∙ get_or-set_other R (i * NET_ROW) w a 0 (λ q. omega arith)

  module _ (h : i * NET_ROW + 5 ≤ length R) where
    put-0 : get_or (put_net R i a b c d e) (i * NET_ROW) 0 ≡ a
    unfolding put_net
    put-0 =
        get_or-set_other four (i * NET_ROW + 4) (i * NET_ROW) e 0 (λ q. omega arith)
        ∙ get_or-set_other three (i * NET_ROW + 3) (i * NET_ROW) d 0 (λ q. omega arith)
        ∙ get_or-set_other two (i * NET_ROW + 2) (i * NET_ROW) c 0 (λ q. omega arith)
        ∙ get_or-set_other one (i * NET_ROW + 1) (i * NET_ROW) b 0 (λ q. omega arith)
        ∙ get_or-set_same R (i * NET_ROW) a 0 (omega arith)

    put_1 : get_or (put_net R i a b c d e) (i * NET_ROW + 1) 0 ≡ b
    unfolding put_net
    put_1 =
        get_or-set_other four (i * NET_ROW + 4) (i * NET_ROW + 1) e 0 (λ q. omega arith)
        ∙ get_or-set_other three (i * NET_ROW + 3) (i * NET_ROW + 1) d 0 (λ q. omega arith)
        ∙ get_or-set_other two (i * NET_ROW + 2) (i * NET_ROW + 1) c 0 (λ q. omega arith)
        ∙ get_or-set_same one (i * NET_ROW + 1) b 0 (simp length-set (omega arith))

    put_2 : get_or (put_net R i a b c d e) (i * NET_ROW + 2) 0 ≡ c
    unfolding put_net
    put_2 =
        get_or-set_other four (i * NET_ROW + 4) (i * NET_ROW + 2) e 0 (λ q. omega arith)
        ∙ get_or-set_other three (i * NET_ROW + 3) (i * NET_ROW + 2) d 0 (λ q. omega arith)
        ∙ get_or-set_same two (i * NET_ROW + 2) c 0 (simp length-set (omega arith))

    put_3 : get_or (put_net R i a b c d e) (i * NET_ROW + 3) 0 ≡ d
    unfolding put_net
    put_3 =
        get_or-set_other four (i * NET_ROW + 4) (i * NET_ROW + 3) e 0 (λ q. omega arith)
        ∙ get_or-set_same three (i * NET_ROW + 3) d 0 (simp length-set (omega arith))

    put_4 : get_or (put_net R i a b c d e) (i * NET_ROW + 4) 0 ≡ e
    unfolding put_net
    put_4 = get_or-set_same four (i * NET_ROW + 4) e 0 (simp length-set (omega arith))

-- the row i says what the net i made of A
pub record RowOf (R : List ℕ) (i : ℕ) (A B : Net) : Type 0 where
  pub number_is : get_or R (i * NET_ROW) 0 ≡ B.number
  pub first_is : get_or R (i * NET_ROW + 1) 0 ≡ A.page.n
  pub count_is : get_or R (i * NET_ROW + 2) 0 ≡ B.page.n - A.page.n
  pub begin_is : get_or R (i * NET_ROW + 3) 0 ≡ A.j
  pub joins_is : get_or R (i * NET_ROW + 4) 0 ≡ B.j - A.j

row_kept : (R S : List ℕ) (i k : ℕ) (A B : Net) → i < k → ((w : ℕ) → w < k * NET_ROW → get_or S w 0 ≡ get_or R w 0) → RowOf R i A B → RowOf S i A B
row_kept R S i k A B h e T =
    record {
      number_is = e (i * NET_ROW) (omega arith) ∙ T.number_is;
      first_is = e (i * NET_ROW + 1) (omega arith) ∙ T.first_is;
      count_is = e (i * NET_ROW + 2) (omega arith) ∙ T.count_is;
      begin_is = e (i * NET_ROW + 3) (omega arith) ∙ T.begin_is;
      joins_is = e (i * NET_ROW + 4) (omega arith) ∙ T.joins_is;
    }

row_new : (R : List ℕ) (i : ℕ) (A B : Net) → i * NET_ROW + 5 ≤ length R → RowOf (put_net R i B.number A.page.n (B.page.n - A.page.n) A.j (B.j - A.j)) i A B
row_new R i A B h =
    record {
      number_is = put-0 R i _ _ _ _ _ h;
      first_is = put_1 R i _ _ _ _ _ h;
      count_is = put_2 R i _ _ _ _ _ h;
      begin_is = put_3 R i _ _ _ _ _ h;
      joins_is = put_4 R i _ _ _ _ _ h;
    }

module _ (G : Graph) (I E : List ℕ) (e : ℕ) (P : Page) where
  abbrev pub at : ℕ → Net
  at k = Nets.nets_to G (xs_of G I E e) (ys_of G I E e) k P.wires P.joins P.j

  abbrev pub laid : ℕ → Page
  laid k = nets_to G I E e k P

  next-is : (k : ℕ) → net_of G E e (get_or I (k * NET) 0) (laid k) ≡ at (suc k)
  unfolding net_of Nets.nets_to
  next-is k = let s = same-nets G I E e P k in rw (s.page_is, s.joins_is, s.j_is)

  nets-is : (k : ℕ) → (laid (suc k)).nets ≡ put_net (laid k).nets k (at (suc k)).number (at k).page.n ((at (suc k)).page.n - (at k).page.n) (at k).j ((at (suc k)).j - (at k).j)
  unfolding nets_to with_net
  nets-is k = let s = same-nets G I E e P k in rw (next-is k, s.page_is, s.j_is)

  rows_long : (k : ℕ) → length (laid k).nets ≡ length P.nets
  unfolding nets_to
  rows_long zero = refl
  rows_long (suc k) = ap length (nets-is k) ∙ put-length (laid k).nets k _ _ _ _ _ ∙ rows_long k

  pub rows_are : (k : ℕ) → k * NET_ROW ≤ length P.nets → (i : ℕ) → i < k → RowOf (laid k).nets i (at i) (at (suc i))
  rows_are zero h i l = absurd (omega arith)
  rows_are (suc k) h i l = rw (nets-is k) (by (ℕ_discrete i k) (rows_are k (omega arith)))
    where
      new : List ℕ
      new = put_net (laid k).nets k (at (suc k)).number (at k).page.n ((at (suc k)).page.n - (at k).page.n) (at k).j ((at (suc k)).j - (at k).j)

      by : Dec (i ≡ k) → ((i : ℕ) → i < k → RowOf (laid k).nets i (at i) (at (suc i))) → RowOf new i (at i) (at (suc i))
      by (yes q) on = rw q (row_new (laid k).nets k (at k) (at (suc k)) (rw (rows_long k) (omega arith)))
      by (no q) on = row_kept (laid k).nets new i k (at i) (at (suc i)) (omega arith) (put-before (laid k).nets k _ _ _ _ _) (on i (omega arith))
