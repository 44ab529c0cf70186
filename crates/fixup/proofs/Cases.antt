-- The page is computed whole.
use mathlib.Core.Path.{refl}
use Rattle.fixed.specs.Track.{track, moved}
use Rattle.tracks.specs.Extent.{widen, leads, reach, extent_of}
use Rattle.tracks.specs.Corridors.{rank_at, key_of, insert_key, lies, gather_at, gather_to, gathered}
use Rattle.tracks.specs.Tracks.{clash, marks, first_clear, track_at, tracks_to}
use Rattle.fixup.specs.Moves.{line_move, corner_move, row_move, move, move_junctions, move_pair, move_at, moves_to}
use Rattle.fixup.specs.Separation.{separate_axis, separate_wires}
use Rattle.fixup.specs.Cases.{Cases}

pub cases : Cases
unfolding track moved clash marks first_clear track_at tracks_to widen leads reach extent_of line_move corner_move row_move move move_junctions move_pair move_at moves_to insert_key rank_at key_of lies gather_at gather_to gathered separate_axis separate_wires
cases = record { page = refl }
