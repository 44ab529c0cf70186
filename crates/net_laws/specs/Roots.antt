-- 01, 'Nets': 'the root pair is the first, in endpoint order, with the greatest size of |dx| − |dy|'. Pairs are numbers as in routing's Roots: the pair 0 is
-- the first endpoint with itself.
use Rattle.std.specs.Prelude.{◌≡◌, List, ℕ, ◌*◌, ◌/◌, ◌%◌, ◌<◌, ◌≤◌}
use Rattle.routing.specs.Roots.{slant_of}

-- p is the root pair of n endpoints
pub record Root (xs ys : List ℕ) (n p : ℕ) : Type 0 where
  pub inside : p < n * n
  pub first_member : p / n < n
  pub second_member : p % n < n
  pub two : p / n ≡ p % n → ⊥
  pub greatest : (q : ℕ) → q < n * n → slant_of xs ys n q ≤ slant_of xs ys n p
  pub first : (q : ℕ) → 0 < q → q < p → slant_of xs ys n q < slant_of xs ys n p
