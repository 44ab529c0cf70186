-- The pairs of one axis: from the tracks to the moves.
use Prim.Native.Nat.{ℕ, ◌-◌, ◌≤◌, ◌<◌}
use mathlib.Core.Path.{◌≡◌, sym, ◌∙◌}
use mathlib.Core.Bool.{Bool, true, false}
use mathlib.Core.List.{List, []}
use native.Mathlib.Omega.{arith}
use lib.ListN.{length, get_or, take}
use lib.Seq.{get_or-take}
use Rattle.tracks.specs.Corridors.{Pairs, pairs, gather_to, gathered, none}
use Rattle.tracks.specs.Tracks.{tracks_to}
use Rattle.fixup.specs.Moves.{Places, moves_to, LOWEST, HIGHEST}
use Rattle.fixup.specs.Separation.{separate_axis, separate_wires, Listed}
use Rattle.vertex.specs.Pages.{Within}
use Rattle.tracks.proofs.Tracks.{tracks-le}
use Rattle.tracks.proofs.Keys.{gather-keyed}
use Rattle.tracks.proofs.Order.{to-rising}

-- the track of the pair at place k
module _ (P : Pairs) (n : ℕ) (few : n ≤ 512) (ts : List ℕ) (same : take n ts ≡ tracks_to P n) (k : ℕ) (h : k < n) where
  pub track-is : get_or ts k 0 ≡ get_or (tracks_to P n) k 0
  track-is = rw (← same) (sym (get_or-take n ts k 0 h))

  pub track_small : get_or ts k 0 < 512
  track_small = omega (arith, track-is, tracks-le P n k h)

pub axis-done : (b : Bool) (P : Pairs) (K J : List ℕ) (n k : ℕ) (s u : Places) → length P.keys ≡ n → k ≡ n → u ≡ moves_to b K J P.keys (tracks_to P n) k s → u ≡ separate_axis b P K J s
unfolding separate_axis
axis-done b P K J n k s u en ek eu = eu ∙ rw (ek, en)

pub axes-done : (H W : Pairs) (K J : List ℕ) (s t u : Places) → t ≡ separate_axis false H K J s → u ≡ separate_axis true W K J t → u ≡ separate_axis true W K J (separate_axis false H K J s)
axes-done H W K J s t u et eu = eu ∙ rw et

-- what `gather` leaves in corridors that had no pairs
pub is-gathered : (second : Bool) (along across K J : List ℕ) (n : ℕ) (P Q : Pairs) → length across ≡ n → P ≡ none → Q ≡ gather_to second along across K J (n - 1) (pairs [] P.low P.high)
    → Q ≡ gathered second along across K J
unfolding gathered
is-gathered second along across K J n P Q en ep eq = eq ∙ rw (ep, en)

-- the keys that are gathered from an axis
pub is-listed : (second : Bool) (along across K J : List ℕ) (P : Pairs) → P ≡ gathered second along across K J → (n : ℕ) → length across ≡ n → n ≤ 512 → Within LOWEST HIGHEST n across → Listed n P.keys
unfolding gathered
is-listed second along across K J P e n en small R =
    rw e
    (record {
      keyed = gather-keyed second along across K J LOWEST HIGHEST n small R (length across - 1) (omega arith) none (record { each = λ k h. absurd (omega arith) });
      rising = to-rising second along across K J (length across - 1);
    })

pub wires-done : (K J : List ℕ) (s u : Places) (H W : Pairs) → H ≡ gathered false s.x s.y K J → W ≡ gathered true s.y s.x K J
    → u ≡ separate_axis true W K J (separate_axis false H K J s) → u ≡ separate_wires K J s
unfolding separate_wires
wires-done K J s u H W eh ev eu = eu ∙ rw (eh, ev)
