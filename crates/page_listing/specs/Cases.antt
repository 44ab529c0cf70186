-- 01, 'Program `wires`': the sample, its input and its output as bytes.
use Rattle.std.specs.Prelude.{◌≡◌, true, List, [], ◌∷◌, ℕ}
use Rattle.page_listing.specs.Printed.{printed}

-- net 1; end 1 0 0 0; end 1 2560 5120 0
abbrev pub sample : List ℕ
sample = 110 ∷ 101 ∷ 116 ∷ 9 ∷ 49 ∷ 10 ∷ 101 ∷ 110 ∷ 100 ∷ 9 ∷ 49 ∷ 9 ∷ 48 ∷ 9 ∷ 48 ∷ 9 ∷ 48 ∷ 10 ∷ 101 ∷ 110 ∷ 100 ∷ 9 ∷ 49 ∷ 9 ∷ 50 ∷ 53 ∷ 54 ∷ 48 ∷ 9 ∷ 53 ∷ 49 ∷ 50 ∷ 48 ∷ 9 ∷ 48 ∷ 10 ∷ []

-- net 1 0 5 0; v 0 0 0 R; v 1 1280 0 D; v 2 1280 0 D; v 3 2560 0 N; v 4 2560 5120 E
abbrev pub sample_listing : List ℕ
sample_listing = 110 ∷ 101 ∷ 116 ∷ 9 ∷ 49 ∷ 9 ∷ 48 ∷ 9 ∷ 53 ∷ 9 ∷ 48 ∷ 10 ∷ 118 ∷ 9 ∷ 48 ∷ 9 ∷ 48 ∷ 9 ∷ 48 ∷ 9 ∷ 82 ∷ 10 ∷ 118 ∷ 9 ∷ 49 ∷ 9 ∷ 49 ∷ 50 ∷ 56 ∷ 48 ∷ 9 ∷ 48 ∷ 9 ∷ 68 ∷ 10 ∷ 118 ∷ 9 ∷ 50 ∷ 9 ∷ 49 ∷ 50 ∷ 56 ∷ 48 ∷ 9 ∷ 48 ∷ 9 ∷ 68 ∷ 10 ∷ 118 ∷ 9 ∷ 51 ∷ 9 ∷ 50 ∷ 53 ∷ 54 ∷ 48 ∷ 9 ∷ 48 ∷ 9 ∷ 78 ∷ 10 ∷ 118 ∷ 9 ∷ 52 ∷ 9 ∷ 50 ∷ 53 ∷ 54 ∷ 48 ∷ 9 ∷ 53 ∷ 49 ∷ 50 ∷ 48 ∷ 9 ∷ 69 ∷ 10 ∷ []

pub record Cases : Type 0 where
  pub sample_is : printed true true sample ≡ sample_listing
  pub empty_is : printed true true [] ≡ []
