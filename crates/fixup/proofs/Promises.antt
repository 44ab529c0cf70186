-- Level 2: separation stays in reach of the page, moves no wire's start and no end without a junction, and parts overlapping pairs.
use Prim.Native.Nat.{ℕ, zero, suc, ◌+◌, ◌-◌, ◌*◌, ◌/◌, ◌%◌, ◌≤◌, ◌<◌}
use mathlib.Core.Path.{◌≡◌, refl, sym, ap, ◌∙◌}
use mathlib.Core.Bool.{Bool, true, false, cond}
use mathlib.Core.List.{List, [], ◌∷◌}
use mathlib.Core.Logic.{◌⊎◌, inl, inr, ⊎_elim}
use native.Mathlib.Omega.{arith}
use lib.Dec.{eqb}
use lib.IntN.{pos, neg_ℤ}
use lib.ListN.{length, get_or, set, length-set}
use lib.Seq.{get_or-set_other}
use Rattle.fixed.specs.Track.{track, moved}
use Rattle.fixed.proofs.Bools.{clash as contrary}
use Rattle.vertex.specs.Kinds.{start, end}
use Rattle.vertex.specs.Pages.{holder, joiner, corner, kind_at, carried, Joined, Wired, Ended, Within}
use Rattle.std.specs.Prelude.{None, Some}
use Rattle.vertex.specs.declared.JunctionKind.TheVariants.{Corner, LineSegment}
use Rattle.vertex.specs.declared.VertexKind.{VertexKind}
use Rattle.vertex.specs.declared.VertexKind.TheVariants.{WireStart, Dummy, Normal, WireEnd}
use Rattle.tracks.specs.Movement.{movement}
use Rattle.tracks.specs.Corridors.{Pairs, pair_of, corridor_of, rank, rank_at, gathered, none, locked_key, Keyed}
use Rattle.tracks.specs.Tracks.{tracks_to}
use Rattle.tracks.specs.Promises.{Apart}
use Rattle.tracks.proofs.Gathering.{lies-rank}
use Rattle.tracks.proofs.Keys.{gather-keyed, key-pair, key-locked}
use Rattle.tracks.proofs.Order.{Has, has-at, Lying, to-only}
use Rattle.tracks.proofs.Apart.{gathered-apart}
use Rattle.tracks.proofs.Listing.{gathered-ordered}
use Rattle.fixup.specs.Moves.{Places, places, start_at, copy_to, put_pair}
use Rattle.fixup.specs.Separation.{separate_axis, separate_wires}
use Rattle.fixup.specs.Promises.{REACH, Bounded, still, Still, Parted}
use Rattle.fixup.proofs.Closed.{Target, moves-closed}

-- ---- tracks

pub separate-parted : (K J : List ℕ) (s : Places) → length s.x ≤ 512 → length s.y ≤ 512 → Parted K J s
separate-parted K J s hx hy =
    record {
      horizontal_order = gathered-ordered false s.x s.y K J hy;
      vertical_order = gathered-ordered true s.y s.x K J hx;
      horizontal = gathered-apart false s.x s.y K J hy;
      vertical = gathered-apart true s.y s.x K J hx;
    }

-- ---- lengths and reach

record Good (lo hi n : ℕ) (s : Places) : Type 0 where
  xs : length s.x ≡ n
  ys : length s.y ≡ n
  near_x : Within lo hi n s.x
  near_y : Within lo hi n s.y

set-either : (l : List ℕ) (u c k : ℕ) → (get_or (set l u c) k 0 ≡ c) ⊎ (get_or (set l u c) k 0 ≡ get_or l k 0)
set-either [] u c k = inr refl
set-either (a ∷ l) zero c zero = inl refl
set-either (a ∷ l) zero c (suc k) = inr refl
set-either (a ∷ l) (suc u) c zero = inr refl
set-either (a ∷ l) (suc u) c (suc k) = set-either l u c k

within-set : {lo hi n : ℕ} (l : List ℕ) (u c : ℕ) → lo ≤ c → c ≤ hi → Within lo hi n l → Within lo hi n (set l u c)
within-set l u c h g W =
    record {
      low = λ k a. ⊎_elim (λ e. rw e h) (λ e. rw e (W.low k a)) (set-either l u c k);
      high = λ k a. ⊎_elim (λ e. rw e g) (λ e. rw e (W.high k a)) (set-either l u c k);
    }

within-put : {lo hi n : ℕ} (l : List ℕ) (i c : ℕ) → lo ≤ c → c ≤ hi → Within lo hi n l → Within lo hi n (put_pair l i c)
within-put l i c h g W = within-set (set l i c) (i + 1) c h g (within-set l i c h g W)

length-put : (l : List ℕ) (i c : ℕ) → length (put_pair l i c) ≡ length l
length-put l i c = simp length-set

moved_back : (a m : ℕ) → moved a (neg_ℤ (pos m)) ≡ a - m
unfolding moved
moved_back a zero = omega arith
moved_back a (suc m) = refl

in_reach : (a : ℕ) (b : Bool) (m k : ℕ) → m ≤ REACH → k ≤ REACH → (a - REACH ≤ moved a (cond b (neg_ℤ (pos m)) (pos k))) × (moved a (cond b (neg_ℤ (pos m)) (pos k)) ≤ a + REACH)
unfolding moved
in_reach a true m k h g = (omega (arith, moved_back a m), omega (arith, moved_back a m))
in_reach a false m k h g = (omega arith, omega arith)

track-reach : (a t : ℕ) → t < 512 → (a - REACH ≤ moved a (track t)) × (moved a (track t) ≤ a + REACH)
unfolding track
track-reach a t h = in_reach a (eqb (t % 2) 0) (t / 2 * 1280) ((t + 1) / 2 * 1280) (omega arith) (omega arith)

module _ (K J : List ℕ) (n : ℕ) (W : Joined n J) (few : n ≤ 512) where
  module _ (lo hi : ℕ) where
    good-x : (s : Places) (j e : ℕ) → Target K J j e → Good lo hi n s → Good lo hi n (places (copy_to s.x (holder J j) e) s.y)
    good-x s j e T G =
        let a = W.after j T.row in
        let b = W.inside j T.row in
        let v : holder J j < n = omega arith in
        let near = G.near_x in
        record { xs = length-set s.x e _ ∙ G.xs; ys = G.ys; near_x = within-set s.x e _ (near.low _ v) (near.high _ v) near; near_y = G.near_y }

    good-y : (s : Places) (j e : ℕ) → Target K J j e → Good lo hi n s → Good lo hi n (places s.x (copy_to s.y (holder J j) e))
    good-y s j e T G =
        let a = W.after j T.row in
        let b = W.inside j T.row in
        let v : holder J j < n = omega arith in
        let near = G.near_y in
        record { xs = G.xs; ys = length-set s.y e _ ∙ G.ys; near_x = G.near_x; near_y = within-set s.y e _ (near.low _ v) (near.high _ v) near }

    good-put : (b : Bool) (s : Places) (i c : ℕ) → lo ≤ c → c ≤ hi → Good lo hi n s → Good lo hi n (cond b (places (put_pair s.x i c) s.y) (places s.x (put_pair s.y i c)))
    good-put true s i c h g G =
        record { xs = length-put s.x i c ∙ G.xs; ys = G.ys; near_x = within-put s.x i c h g G.near_x; near_y = G.near_y }
    good-put false s i c h g G =
        record { xs = G.xs; ys = length-put s.y i c ∙ G.ys; near_x = G.near_x; near_y = within-put s.y i c h g G.near_y }

  axis-good : (lo hi : ℕ) (b : Bool) (P : Pairs) → Keyed lo hi n P.keys → Apart P → (s : Places) → Good (lo - REACH) (hi + REACH) n s → Good (lo - REACH) (hi + REACH) n (separate_axis b P K J s)
  unfolding separate_axis
  axis-good lo hi b P keyed A s G = moves-closed K J (Good (lo - REACH) (hi + REACH) n) (good-x (lo - REACH) (hi + REACH)) (good-y (lo - REACH) (hi + REACH)) b P.keys ts put (length P.keys) s (omega arith) G
    where
      ts : List ℕ
      ts = tracks_to P (length P.keys)

      put : (t : Places) (k c : ℕ) → k < length P.keys → (get_or ts k 0 ≡ 0 → ⊥) → c ≡ moved (corridor_of (get_or P.keys k 0)) (track (get_or ts k 0)) → Good (lo - REACH) (hi + REACH) n t
          → Good (lo - REACH) (hi + REACH) n (cond b (places (put_pair t.x (pair_of (get_or P.keys k 0)) c) t.y) (places t.x (put_pair t.y (pair_of (get_or P.keys k 0)) c)))
      put t k c l _ e T =
          let near = track-reach (corridor_of (get_or P.keys k 0)) (get_or ts k 0) (A.marked k l) in
          let down = near.0 in
          let up = near.1 in
          let ok = keyed.each k l in
          good-put (lo - REACH) (hi + REACH) b t (pair_of (get_or P.keys k 0)) c (rw e (omega (arith, ok.low))) (rw e (omega (arith, ok.high))) T

  wider : (lo hi : ℕ) (l : List ℕ) → Within lo hi n l → Within (lo - REACH) (hi + REACH) n l
  wider lo hi l R = record { low = λ i h. omega (arith, R.low i h); high = λ i h. omega (arith, R.high i h) }

  keyed-on : (lo hi : ℕ) (second : Bool) (along across : List ℕ) → length across ≡ n → Within lo hi n across → Keyed lo hi n (gathered second along across K J).keys
  unfolding gathered
  keyed-on lo hi second along across e R =
      gather-keyed second along across K J lo hi n few R (length across - 1) (omega arith) none (record { each = λ k h. absurd (omega arith) })

  pub separate-bounded : (lo hi : ℕ) (s : Places) → length s.x ≡ n → length s.y ≡ n → Within lo hi n s.x → Within lo hi n s.y → Bounded lo hi n K J s
  unfolding separate_wires
  separate-bounded lo hi s ex ey rx ry =
      let G : Good (lo - REACH) (hi + REACH) n s = record { xs = ex; ys = ey; near_x = wider lo hi s.x rx; near_y = wider lo hi s.y ry } in
      let A = separate-parted K J s (omega arith) (omega arith) in
      let H = gathered false s.x s.y K J in
      let U = gathered true s.y s.x K J in
      let one = axis-good lo hi false H (keyed-on lo hi false s.x s.y ey ry) A.horizontal s G in
      let two = axis-good lo hi true U (keyed-on lo hi true s.y s.x ex rx) A.vertical (separate_axis false H K J s) one in
      record { xs = two.xs; ys = two.ys; near_x = two.near_x; near_y = two.near_y }

-- ---- what stays

not-still : (k : VertexKind) → start k ≡ false → end k ≡ false → still k ≡ false
not-still (WireStart r) h g = h
not-still Dummy h g = refl
not-still Normal h g = refl
not-still (WireEnd j) h g = absurd (contrary refl g)

ends-move : (b : Bool) → still (WireEnd (carried b)) ≡ false
ends-move true = refl
ends-move false = refl

-- a pair that is neither skipped nor locked: its first vertex is a dummy or a corner, and so is its second, or it is an end on a segment
first-moves : (a b : VertexKind) → (rank (movement a b) ≡ 0 → ⊥) → rank (movement a b) < 3 → still a ≡ false
first-moves (WireStart r) (WireStart q) h g = absurd (h refl)
first-moves (WireStart r) Dummy h g = absurd (omega arith)
first-moves (WireStart r) Normal h g = absurd (h refl)
first-moves (WireStart r) (WireEnd None) h g = absurd (h refl)
first-moves (WireStart r) (WireEnd (Some Corner)) h g = absurd (omega arith)
first-moves (WireStart r) (WireEnd (Some LineSegment)) h g = absurd (h refl)
first-moves Dummy b h g = refl
first-moves Normal b h g = refl
first-moves (WireEnd j) b h g = absurd (omega arith)

second-moves : (a b : VertexKind) → start b ≡ end a → (rank (movement a b) ≡ 0 → ⊥) → rank (movement a b) < 3 → still b ≡ false
second-moves (WireStart r) (WireStart q) e h g = e
second-moves Dummy (WireStart q) e h g = e
second-moves Normal (WireStart q) e h g = e
second-moves (WireEnd j) (WireStart q) e h g = absurd (omega arith)
second-moves a Dummy e h g = refl
second-moves a Normal e h g = refl
second-moves (WireStart r) (WireEnd None) e h g = absurd (h refl)
second-moves Dummy (WireEnd None) e h g = absurd (omega arith)
second-moves Normal (WireEnd None) e h g = absurd (h refl)
second-moves (WireEnd j) (WireEnd None) e h g = absurd (omega arith)
second-moves a (WireEnd (Some Corner)) e h g = refl
second-moves a (WireEnd (Some LineSegment)) e h g = refl

has-none : {y : ℕ} → Has y [] → ⊥
has-none h = elim h [ ]

-- a pair that is moved has a track, so it is not locked
module _ (second : Bool) (along across K J : List ℕ) (n : ℕ) (e : length across ≡ n) (few : n ≤ 512) (A : Apart (gathered second along across K J))
    (k : ℕ) (l : k < length (gathered second along across K J).keys) (on : get_or (tracks_to (gathered second along across K J) (length (gathered second along across K J).keys)) k 0 ≡ 0 → ⊥) where
  key : ℕ
  key = get_or (gathered second along across K J).keys k 0

  lying : Lying second along across K J (length across - 1) key
  unfolding key gathered
  lying = to-only second along across K J (length across - 1) _ none has-none (has-at (gathered second along across K J).keys k l)

  small : lying.i < 512
  small = omega (arith, lying.below)

  rank-in : rank_at K lying.i < 3
  rank-in = lies-rank second along across K lying.i lying.lie

  is-pair : pair_of key ≡ lying.i
  is-pair = ap pair_of (sym lying.is) ∙ key-pair (get_or across lying.i 0) (rank_at K lying.i) lying.i rank-in small

  not-locked : rank_at K lying.i ≡ 0 → ⊥
  unfolding key
  not-locked f =
      let told : locked_key key ≡ true = rw (← lying.is, f) (key-locked (get_or across lying.i 0) lying.i small) in
      on (A.locked k l told)

  pair-moves : Wired n K → (still (kind_at K (pair_of key)) ≡ false) × (still (kind_at K (pair_of key + 1)) ≡ false)
  unfolding rank_at
  pair-moves Q =
      let i = lying.i in
      let next = Q.next i (omega (arith, lying.below)) in
      rw is-pair (first-moves (kind_at K i) (kind_at K (i + 1)) not-locked rank-in, second-moves (kind_at K i) (kind_at K (i + 1)) next not-locked rank-in)

-- the vertex i is at (a, b)
record Stays (i a b : ℕ) (t : Places) : Type 0 where
  at_x : get_or t.x i 0 ≡ a
  at_y : get_or t.y i 0 ≡ b

module _ (K J : List ℕ) (n : ℕ) (W : Joined n J) (Q : Wired n K) (E : Ended K J) where
  target-moves : (j e : ℕ) → Target K J j e → still (kind_at K e) ≡ false
  target-moves j e T = go T.target
    where
      go : (e ≡ joiner J j) ⊎ ((e ≡ joiner J j - 1) × (start_at K e ≡ false)) → still (kind_at K e) ≡ false
      go (inl f) = rw (f, E.joins j T.row) (ends-move (corner J j))
      go (inr (f, b)) =
          let a = W.after j T.row in
          let c = W.inside j T.row in
          let one : e + 1 ≡ joiner J j = omega arith in
          let kind = E.joins j T.row in
          let next : start (kind_at K (e + 1)) ≡ end (kind_at K e) = Q.next e (omega arith) in
          not-still (kind_at K e) b (sym next ∙ (rw (one, kind) refl))

  module _ (i a b : ℕ) (S : still (kind_at K i) ≡ true) where
    other : (u : ℕ) → still (kind_at K u) ≡ false → i ≡ u → ⊥
    other u e f = contrary S (rw f e)

    set_other : (l : List ℕ) (u c d : ℕ) → still (kind_at K u) ≡ false → get_or l i 0 ≡ d → get_or (set l u c) i 0 ≡ d
    set_other l u c d e h = get_or-set_other l u i c 0 (other u e) ∙ h

    stays-x : (s : Places) (j e : ℕ) → Target K J j e → Stays i a b s → Stays i a b (places (copy_to s.x (holder J j) e) s.y)
    stays-x s j e T h = record { at_x = set_other s.x e _ a (target-moves j e T) h.at_x; at_y = h.at_y }

    stays-y : (s : Places) (j e : ℕ) → Target K J j e → Stays i a b s → Stays i a b (places s.x (copy_to s.y (holder J j) e))
    stays-y s j e T h = record { at_x = h.at_x; at_y = set_other s.y e _ b (target-moves j e T) h.at_y }

    stays_put : (v : Bool) (s : Places) (p c : ℕ) → still (kind_at K p) ≡ false → still (kind_at K (p + 1)) ≡ false → Stays i a b s
        → Stays i a b (cond v (places (put_pair s.x p c) s.y) (places s.x (put_pair s.y p c)))
    stays_put true s p c e f h = record { at_x = set_other (set s.x p c) (p + 1) c a f (set_other s.x p c a e h.at_x); at_y = h.at_y }
    stays_put false s p c e f h = record { at_x = h.at_x; at_y = set_other (set s.y p c) (p + 1) c b f (set_other s.y p c b e h.at_y) }

    axis-stays : (second : Bool) (along across : List ℕ) → length across ≡ n → n ≤ 512 → Apart (gathered second along across K J) → (s : Places) → Stays i a b s → Stays i a b (separate_axis second (gathered second along across K J) K J s)
    unfolding separate_axis key
    axis-stays second along across e few A s h =
        let P = gathered second along across K J in
        moves-closed K J (Stays i a b) stays-x stays-y second P.keys (tracks_to P (length P.keys))
        (λ t k c l on _ g. let m = pair-moves second along across K J n e few A k l on Q in stays_put second t (pair_of (get_or P.keys k 0)) c m.0 m.1 g)
        (length P.keys) s (omega arith) h

  stays : (i : ℕ) → still (kind_at K i) ≡ true → n ≤ 512 → (s : Places) → length s.x ≡ n → length s.y ≡ n → Stays i (get_or s.x i 0) (get_or s.y i 0) (separate_wires K J s)
  unfolding separate_wires
  stays i S few s ex ey =
      let a = get_or s.x i 0 in
      let b = get_or s.y i 0 in
      let A = separate-parted K J s (omega arith) (omega arith) in
      let one = axis-stays i a b S false s.x s.y ey few A.horizontal s (record { at_x = refl; at_y = refl }) in
      axis-stays i a b S true s.y s.x ex few A.vertical (separate_axis false (gathered false s.x s.y K J) K J s) one

  pub separate-still : n ≤ 512 → (s : Places) → length s.x ≡ n → length s.y ≡ n → Still K J s
  separate-still few s ex ey =
      record { still_x = λ i S. (stays i S few s ex ey).at_x; still_y = λ i S. (stays i S few s ex ey).at_y }
