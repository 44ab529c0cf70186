-- The walk back along the predecessors: what is written is the back of the line, and the chain from the next node is its front.
use Rattle.std.proofs.Common.{◌≡◌, ℕ, ◌-◌, ◌≤◌, List, Option, Some, None, length, get_or, set, drop, reverse, arith}
use Rattle.std.proofs.Math.ListN.{length-set}
use Rattle.astar.specs.Search.{IsNode, chain}
use Rattle.astar.proofs.Trace.{Tracing, trace-last, trace-step}

-- of a walk that is done, all is written
pub record Whole (n long : ℕ) (p : List ℕ) (end : ℕ) (path : List ℕ) (at : ℕ) : Type 0 where
  pub inside : at ≤ long
  pub len : length path ≡ long
  pub same : drop at path ≡ reverse (chain n p end)

abbrev pub Walked : (n long : ℕ) (p : List ℕ) (end : ℕ) (path : List ℕ) → Option ℕ → ℕ → Type 0
Walked n long p end path None at = Whole n long p end path at
Walked n long p end path (Some v) at = Tracing n long p end path v at

module _ (n long : ℕ) (p : List ℕ) (end : ℕ) (path : List ℕ) (v at : ℕ) (T : Tracing n long p end path v at) where
  pub walk-on : (r : Option ℕ) → IsNode r (get_or p v 0) → Walked n long p end (set path (at - 1) v) r (at - 1)
  walk-on None e =
      record { inside = omega (arith, T.inside); len = simp length-set T.len; same = trace-last n long p end path v at T e }
  walk-on (Some q) e = rw e.0 (trace-step n long p end path v at T e.1)
