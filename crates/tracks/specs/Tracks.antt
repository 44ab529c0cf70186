-- 01, 'Separation': locked pairs take track 0; others take the lowest track free of overlapping earlier pairs of their corridor.
use Rattle.std.specs.Prelude.{◌≡◌, Bool, true, false, cond, ◌&&◌, List, [], ◌∷◌, ◌++◌, ℕ, zero, suc, ◌+◌, ◌<◌, ◌≤◌, leb, eqb, length, get_or, set, replicate}
use Rattle.fixed.specs.Constants.{SPACING}
use Rattle.fixed.specs.Track.{TRACKS}
use Rattle.tracks.specs.Corridors.{Pairs, corridor_of, pair_of, locked_key}

-- runs 5 units apart overlap
abbrev pub overlap : ℕ → ℕ → ℕ → ℕ → Bool
overlap low high low' high' = leb low (high' + SPACING) && leb low' (high + SPACING)

-- the pairs of the keys a and b lie in one corridor and overlap
unfoldable pub clash : List ℕ → List ℕ → ℕ → ℕ → Bool
clash low high a b =
    eqb (corridor_of a) (corridor_of b)
    && overlap (get_or low (pair_of a) 0) (get_or high (pair_of a) 0) (get_or low (pair_of b) 0) (get_or high (pair_of b) 0)

-- used marks: all clear at first, one for each of 512 tracks; then set for each of the first k pairs that clashes with the key a
unfoldable pub marks : Pairs → List ℕ → ℕ → ℕ → List Bool
marks P ts a zero = replicate TRACKS false
marks P ts a (suc k) =
    let m = marks P ts a k in
    cond (clash P.low P.high a (get_or P.keys k 0)) (set m (get_or ts k 0) true) m

unfoldable pub first_clear : List Bool → ℕ
first_clear [] = zero
first_clear (true ∷ l) = suc (first_clear l)
first_clear (false ∷ l) = zero

-- the track of the pair at place k, from the tracks ts of those before it
unfoldable pub track_at : Pairs → List ℕ → ℕ → ℕ
track_at P ts k =
    let a = get_or P.keys k 0 in
    cond (locked_key a) 0 (first_clear (marks P ts a k))

-- the tracks of the first k pairs
unfoldable pub tracks_to : Pairs → ℕ → List ℕ
tracks_to P zero = []
tracks_to P (suc k) = tracks_to P k ++ (track_at P (tracks_to P k) k ∷ [])

-- where the corridor of the pair at place k starts, if that of the pair before it starts at `from`
abbrev pub corridor_start : List ℕ → ℕ → ℕ → ℕ
corridor_start keys from k = cond (eqb (corridor_of (get_or keys from 0)) (corridor_of (get_or keys k 0))) from k

-- what assigning a track asks: tracks of the first k pairs, each with a mark
pub record Tracked (k : ℕ) (ts : List ℕ) : Type 0 where
  pub held : k ≤ length ts
  pub marked : (q : ℕ) → q < k → get_or ts q 0 < TRACKS

-- the keys rise
pub record Rising (keys : List ℕ) : Type 0 where
  pub rise : (p q : ℕ) → p ≤ q → q < length keys → get_or keys p 0 ≤ get_or keys q 0

-- the corridor of the pair at place k has no pair before place `from`
pub record From (keys : List ℕ) (from k : ℕ) : Type 0 where
  pub reached : from ≤ k
  pub apart : (q : ℕ) → q < from → corridor_of (get_or keys q 0) ≡ corridor_of (get_or keys k 0) → ⊥
