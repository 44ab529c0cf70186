-- By the library's look at neighbours.
use Rattle.std.proofs.lemmas.List.Sorted.{non_decreasing_from_is_sorted}
use Rattle.sightline.proofs.tests.are_rising.Goals as goal

pub returns : goal.returns
returns c = λ e. let s = rw e at (non_decreasing_from_is_sorted _ _ c.is_sorted.ensures.cases) in record { rising = λ j k h l. s j k 0 h l }
