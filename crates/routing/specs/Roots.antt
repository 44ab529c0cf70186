-- 01, 'Nets' (`pick_root_path`): 'the root pair is the first, in endpoint order, with the greatest size of |dx| − |dy|'. The pairs of n endpoints in
-- order are the numbers below n * n: the pair p is p / n and p % n. Of two equal endpoints the size is 0, so that the pair 1, of the first and the second,
-- comes before any such pair.
use Rattle.std.specs.Prelude.{cond, List, ℕ, zero, suc, ◌*◌, ◌/◌, ◌%◌, ltb, get_or}
use Rattle.fixed.specs.Steps.{gap}

-- 256 endpoints
abbrev pub POINTS : ℕ
POINTS = 256

-- the size of |dx| − |dy|
unfoldable pub slant : List ℕ → List ℕ → ℕ → ℕ → ℕ
slant xs ys a b = gap (gap (get_or xs a 0) (get_or xs b 0)) (gap (get_or ys a 0) (get_or ys b 0))

unfoldable pub slant_of : List ℕ → List ℕ → ℕ → ℕ → ℕ
slant_of xs ys n p = slant xs ys (p / n) (p % n)

-- the first greatest of the pairs below k
unfoldable pub root_to : List ℕ → List ℕ → ℕ → ℕ → ℕ
root_to xs ys n zero = 1
root_to xs ys n (suc k) =
    let best = root_to xs ys n k in
    cond (ltb (slant_of xs ys n best) (slant_of xs ys n k)) k best

unfoldable pub root_pair : List ℕ → List ℕ → ℕ → ℕ
root_pair xs ys n = root_to xs ys n (n * n)
