-- A loop that lays a plan turn by turn: what is left to do from here gives what the whole gives.
use Rattle.std.proofs.Common.{◌≡◌, sym, ◌∙◌, ◌<◌, ◌≤◌, ℕ, zero, suc, ◌+◌, ◌-◌, length, arith}
use Rattle.corridors.specs.Merge.{Plan, fold}

-- no turn takes an anchor away
pub record Grows (f : ℕ → Plan → Plan) : Type 0 where
  pub grows : (k : ℕ) (p : Plan) → length p.along ≤ length (f k p).along

pub fold-grows : (f : ℕ → Plan → Plan) (k m : ℕ) (p : Plan) → Grows f → length p.along ≤ length (fold f k m p).along
unfolding fold
fold-grows f k zero p w = omega arith
fold-grows f k (suc m) p w = omega (arith, w.grows k p, fold-grows f (k + 1) m (f k p) w)

fold_done : (f : ℕ → Plan → Plan) (k m : ℕ) (p : Plan) → m ≡ 0 → fold f k m p ≡ p
unfolding fold
fold_done f k m p e = rw e

fold_more : (f : ℕ → Plan → Plan) (k m : ℕ) (p : Plan) → 0 < m → fold f k m p ≡ fold f (k + 1) (m - 1) (f k p)
unfolding fold
fold_more f k zero p h = absurd (omega arith)
fold_more f k (suc m) p h = let q : suc m - 1 ≡ m = omega arith in rw q

pub record Folding (f : ℕ → Plan → Plan) (n : ℕ) (p₀ p : Plan) (k : ℕ) : Type 0 where
  pub reached : k ≤ n
  pub rest : fold f k (n - k) p ≡ fold f 0 n p₀

pub fold-begin : (f : ℕ → Plan → Plan) (n : ℕ) (p : Plan) → Folding f n p p 0
fold-begin f n p = let e : n - 0 ≡ n = omega arith in record { reached = omega arith; rest = rw e }

module _ {f : ℕ → Plan → Plan} {n : ℕ} {p₀ p : Plan} {k : ℕ} (i : Folding f n p₀ p k) where
  pub fold_on : k < n → {v : Plan} → v ≡ f k p → Folding f n p₀ v (k + 1)
  fold_on h e =
      let q : n - (k + 1) ≡ n - k - 1 = omega arith in
      record { reached = omega arith; rest = rw (q, e) (sym (fold_more f k (n - k) p (omega arith)) ∙ i.rest) }

  pub fold-full : (m : ℕ) → Grows f → k < n → m < length (f k p).along → m < length (fold f 0 n p₀).along
  fold-full m g h b =
      rw (← i.rest, fold_more f k (n - k) p (omega arith)) (omega (arith, fold-grows f (k + 1) (n - k - 1) (f k p) g))

  pub fold_end : n ≤ k → p ≡ fold f 0 n p₀
  fold_end h = sym (fold_done f k (n - k) p (omega arith)) ∙ i.rest
