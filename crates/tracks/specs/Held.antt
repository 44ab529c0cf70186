-- The pairs that the code's struct of an axis holds.
use Rattle.std.specs.Prelude.{take, map}
use Rattle.tracks.specs.Corridors.{Pairs, pairs}
use Rattle.tracks.specs.declared.types.Corridors.{Corridors}
use Rattle.tracks.specs.declared.types.Extent.{Extent}

abbrev pub pairs_in : Corridors → Pairs
pairs_in c = pairs (take c.count c.keys) (map (λ (e : Extent). e.low) c.extents) (map (λ (e : Extent). e.high) c.extents)
