-- One vertex more on a page, and the wire that it belongs to.
use mathlib.Core.Path.{◌≡◌, refl, sym, ap, ◌∙◌}
use mathlib.Core.Bool.{Bool, true, false}
use mathlib.Core.List.{List}
use Prim.Native.Nat.{ℕ, suc, ◌+◌, ◌-◌, ◌<◌, ◌≤◌}
use native.Mathlib.Decide.{ℕ_discrete, dec_lt}
use native.Mathlib.Omega.{arith}
use lib.ListN.{length, get_or, set, length-set}
use lib.Seq.{get_or-set_same, get_or-set_other}
use Rattle.vertex.specs.Kinds.{letter_of, kind_of, start, end, Junction}
use Rattle.vertex.specs.Pages.{kind_at, Wired, Within}
use Rattle.vertex.specs.declared.VertexKind.{VertexKind}
use Rattle.vertex.specs.declared.VertexKind.TheVariants.{WireStart, WireEnd}
use Rattle.vertex.proofs.Letters.{kind-letter}
use Rattle.wire.specs.Wires.{Vertices, push_vertex}
use Rattle.net_laws.specs.Laid.{Kept, Begun, Laid, Roomy}

-- ---- lists with one entry more

pub within-push : {lo hi n : ℕ} (l : List ℕ) (c : ℕ) → n < length l → lo ≤ c → c ≤ hi → Within lo hi n l → Within lo hi (n + 1) (set l n c)
within-push {lo} {hi} {n} l c h a b W =
    record { low = λ i k. low i k (ℕ_discrete i n); high = λ i k. high i k (ℕ_discrete i n) }
  where
    low : (i : ℕ) → i < n + 1 → Dec (i ≡ n) → lo ≤ get_or (set l n c) i 0
    low i k (yes e) = rw (e, get_or-set_same l n c 0 h) a
    low i k (no e) = rw (get_or-set_other l n i c 0 e) (W.low i (omega arith))

    high : (i : ℕ) → i < n + 1 → Dec (i ≡ n) → get_or (set l n c) i 0 ≤ hi
    high i k (yes e) = rw (e, get_or-set_same l n c 0 h) b
    high i k (no e) = rw (get_or-set_other l n i c 0 e) (W.high i (omega arith))

kind-new : (K : List ℕ) (n : ℕ) (k : VertexKind) → n < length K → kind_at (set K n (letter_of k)) n ≡ k
kind-new K n k h = ap kind_of (get_or-set_same K n (letter_of k) 0 h) ∙ kind-letter k

kind-other : (K : List ℕ) (n a i : ℕ) → (i ≡ n → ⊥) → kind_at (set K n a) i ≡ kind_at K i
kind-other K n a i e = ap kind_of (get_or-set_other K n i a 0 e)

-- none of the kinds from a on passes the test
none-push : (f : VertexKind → Bool) (K : List ℕ) (n a : ℕ) (k : VertexKind) → n < length K → ((i : ℕ) → a ≤ i → i < n → f (kind_at K i) ≡ false) → f k ≡ false
    → (i : ℕ) → a ≤ i → i < n + 1 → f (kind_at (set K n (letter_of k)) i) ≡ false
none-push f K n a k h each e i l m = by (ℕ_discrete i n)
  where
    by : Dec (i ≡ n) → f (kind_at (set K n (letter_of k)) i) ≡ false
    by (yes q) = rw q (ap f (kind-new K n k h) ∙ e)
    by (no q) = ap f (kind-other K n (letter_of k) i q) ∙ each i l (omega arith)

-- ---- pages

pub kept_on : {n k : ℕ} {O P Q : Vertices} → n ≤ k → Kept n O P → Kept k P Q → Kept n O Q
kept_on h a b =
    record {
      x_kept = λ i l. b.x_kept i (omega arith) ∙ a.x_kept i l;
      y_kept = λ i l. b.y_kept i (omega arith) ∙ a.y_kept i l;
      kind_kept = λ i l. b.kind_kept i (omega arith) ∙ a.kind_kept i l;
    }

pub kept_same : (n : ℕ) (P : Vertices) → Kept n P P
kept_same n P = record { x_kept = λ i l. refl; y_kept = λ i l. refl; kind_kept = λ i l. refl }

pub push_kept : (px py : ℕ) (kind : VertexKind) (P : Vertices) → Kept P.n P (push_vertex px py kind P)
unfolding push_vertex
push_kept px py kind P =
    record {
      x_kept = λ i h. get_or-set_other P.x P.n i px 0 (λ e. omega arith);
      y_kept = λ i h. get_or-set_other P.y P.n i py 0 (λ e. omega arith);
      kind_kept = λ i h. get_or-set_other P.kinds P.n i (letter_of kind) 0 (λ e. omega arith);
    }

pub push-roomy : (px py : ℕ) (kind : VertexKind) (P : Vertices) → Roomy P → Roomy (push_vertex px py kind P)
unfolding push_vertex
push-roomy px py kind P R =
    record {
      of_x = rw length-set R.of_x;
      of_y = rw length-set R.of_y;
      of_kinds = rw length-set R.of_kinds;
    }

-- ---- a wire from its start on

pub begin : (O : Vertices) (sx sy : ℕ) (r : Bool) → Roomy O → O.n < 512 → Begun O (push_vertex sx sy (WireStart r) O) sx sy
unfolding push_vertex
begin O sx sy r R h =
    let K = O.kinds in
    let new = kind-new K O.n (WireStart r) (omega (arith, R.of_kinds)) in
    record {
      more = omega arith;
      old = push_kept sx sy (WireStart r) O;
      from = ap start new;
      from_x = get_or-set_same O.x O.n sx 0 (omega (arith, R.of_x));
      from_y = get_or-set_same O.y O.n sy 0 (omega (arith, R.of_y));
      one_start = λ i a b. absurd (omega arith);
      no_end = λ i a b. none-push end K O.n O.n (WireStart r) (omega (arith, R.of_kinds)) (λ i a b. absurd (omega arith)) refl i a b;
    }

module _ (O P : Vertices) (sx sy : ℕ) (B : Begun O P sx sy) (R : Roomy P) (h : P.n < 512) where
  on-old : (px py : ℕ) (kind : VertexKind) → Kept O.n O (push_vertex px py kind P)
  on-old px py kind = kept_on (omega (arith, B.more)) B.old (push_kept px py kind P)

  still-from : (px py : ℕ) (kind : VertexKind) → start (kind_at (push_vertex px py kind P).kinds O.n) ≡ true
  unfolding push_vertex
  still-from px py kind = ap start (kind-other P.kinds P.n (letter_of kind) O.n (λ e. omega (arith, B.more))) ∙ B.from

  still_x : (px py : ℕ) (kind : VertexKind) → get_or (push_vertex px py kind P).x O.n 0 ≡ sx
  unfolding push_vertex
  still_x px py kind = get_or-set_other P.x P.n O.n px 0 (λ e. omega (arith, B.more)) ∙ B.from_x

  still_y : (px py : ℕ) (kind : VertexKind) → get_or (push_vertex px py kind P).y O.n 0 ≡ sy
  unfolding push_vertex
  still_y px py kind = get_or-set_other P.y P.n O.n py 0 (λ e. omega (arith, B.more)) ∙ B.from_y

  pub go_on : (px py : ℕ) (kind : VertexKind) → start kind ≡ false → end kind ≡ false → Begun O (push_vertex px py kind P) sx sy
  unfolding push_vertex
  go_on px py kind s e =
      record {
        more = omega (arith, B.more);
        old = on-old px py kind;
        from = still-from px py kind;
        from_x = still_x px py kind;
        from_y = still_y px py kind;
        one_start = none-push start P.kinds P.n (suc O.n) kind (omega (arith, R.of_kinds)) (λ i a b. B.one_start i a b) s;
        no_end = none-push end P.kinds P.n O.n kind (omega (arith, R.of_kinds)) B.no_end e;
      }

  pub finish : (ex ey : ℕ) (J : Junction) → Laid O (push_vertex ex ey (WireEnd J) P) sx sy ex ey J
  unfolding push_vertex
  finish ex ey J =
      let z : P.n + 1 - 1 ≡ P.n = omega arith in
      record {
        two = omega (arith, B.more);
        old = on-old ex ey (WireEnd J);
        from = still-from ex ey (WireEnd J);
        from_x = still_x ex ey (WireEnd J);
        from_y = still_y ex ey (WireEnd J);
        one_start = none-push start P.kinds P.n (suc O.n) (WireEnd J) (omega (arith, R.of_kinds)) (λ i a b. B.one_start i a b) refl;
        one_end = λ i a b. ap end (kind-other P.kinds P.n (letter_of (WireEnd J)) i (λ e. omega arith)) ∙ B.no_end i a (omega arith);
        to = rw z (kind-new P.kinds P.n (WireEnd J) (omega (arith, R.of_kinds)));
        to_x = rw z (get_or-set_same P.x P.n ex 0 (omega (arith, R.of_x)));
        to_y = rw z (get_or-set_same P.y P.n ey 0 (omega (arith, R.of_y)));
      }

-- ---- wires one after another

pub wired-on : {O P : Vertices} {sx sy ex ey : ℕ} {J : Junction} → Laid O P sx sy ex ey J → Wired O.n O.kinds → Wired P.n P.kinds
wired-on {O} {P} {sx} {sy} {ex} {ey} {J} D Q =
    record { first = λ h. first (ℕ_discrete O.n 0); next = λ i h. next i h (dec_lt (i + 1) O.n) (ℕ_discrete (i + 1) O.n); last = λ h. ap end D.to }
  where
    same : (i : ℕ) → i < O.n → kind_at P.kinds i ≡ kind_at O.kinds i
    same i h = ap kind_of (D.old.kind_kept i h)

    first : Dec (O.n ≡ 0) → start (kind_at P.kinds 0) ≡ true
    first (yes e) = rw e at D.from
    first (no e) = ap start (same 0 (omega arith)) ∙ Q.first (omega arith)

    next : (i : ℕ) → i + 1 < P.n → Dec (i + 1 < O.n) → Dec (i + 1 ≡ O.n) → start (kind_at P.kinds (i + 1)) ≡ end (kind_at P.kinds i)
    next i h (yes a) d = ap start (same (i + 1) a) ∙ Q.next i a ∙ sym (ap end (same i (omega arith)))
    next i h (no a) (yes e) =
        let z : O.n - 1 ≡ i = omega arith in
        let last : end (kind_at O.kinds i) ≡ true = rw z at (Q.last (omega arith)) in
        (rw e D.from) ∙ sym (ap end (same i (omega arith)) ∙ last)
    next i h (no a) (no e) = D.one_start (i + 1) (omega arith) h ∙ sym (D.one_end i (omega arith) h)
