-- 01, 'Cases at the edges': those of the tracks. The proof is in proofs/Cases.
use Rattle.std.specs.Prelude.{◌≡◌, true, false, ◌+◌, ◌*◌, pos, neg_ℤ}
use Rattle.fixed.specs.Constants.{UNIT, SPACING}
use Rattle.fixed.specs.Track.{track}
use Rattle.tracks.specs.Tracks.{overlap}

pub record Cases : Type 0 where
  -- runs 5 units apart overlap, whichever comes first
  pub runs_5_apart : overlap (100 * UNIT) (110 * UNIT) (115 * UNIT) (120 * UNIT) ≡ true
  pub turned_5_apart : overlap (115 * UNIT) (120 * UNIT) (100 * UNIT) (110 * UNIT) ≡ true
  -- 5 and a step do not
  pub runs_a_step_more : overlap (100 * UNIT) (110 * UNIT) (115 * UNIT + 1) (120 * UNIT) ≡ false
  pub turned_a_step_more : overlap (115 * UNIT + 1) (120 * UNIT) (100 * UNIT) (110 * UNIT) ≡ false
  -- tracks 0 to 4 move 0, 1, −1, 2, −2 spacings
  pub track_0 : track 0 ≡ pos 0
  pub track_1 : track 1 ≡ pos SPACING
  pub track_2 : track 2 ≡ neg_ℤ (pos SPACING)
  pub track_3 : track 3 ≡ pos (2 * SPACING)
  pub track_4 : track 4 ≡ neg_ℤ (pos (2 * SPACING))
