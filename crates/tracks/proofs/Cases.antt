-- The cases of the tracks are computed.
use mathlib.Core.Path.{refl}
use Rattle.fixed.specs.Track.{track}
use Rattle.tracks.specs.Cases.{Cases}

pub cases : Cases
unfolding track
cases =
    record {
      runs_5_apart = refl;
      turned_5_apart = refl;
      runs_a_step_more = refl;
      turned_a_step_more = refl;
      track_0 = refl;
      track_1 = refl;
      track_2 = refl;
      track_3 = refl;
      track_4 = refl;
    }
