-- What the code keeps in scratch beside the state of the search. No answer depends on it.
use Rattle.std.specs.Prelude.{ℕ, suc, ◌*◌, ◌≤◌, ◌<◌, ◌≡◌, cond, List, ◌⊎◌, length, get_or, replicate}
use Rattle.columns.specs.Columns.{column}
use Rattle.queue.specs.Queue.{UNSET}
use Rattle.queue.specs.Columns.{WIDTH, sums}
use Rattle.queue.specs.Index.{Indexed}
use Rattle.nodes.specs.Graph.{none}
use Rattle.astar.specs.Search.{St, st, nearest, holds}

-- the columns beside that of the sums
abbrev pub SCORE : ℕ
SCORE = 0

abbrev pub ESTIMATE : ℕ
ESTIMATE = 1

abbrev pub PRED : ℕ
PRED = 2

abbrev pub MARK : ℕ
MARK = 4

abbrev pub scores : ℕ → List ℕ → List ℕ
scores n cells = column SCORE n cells

abbrev pub estimates : ℕ → List ℕ → List ℕ
estimates n cells = column ESTIMATE n cells

abbrev pub preds : ℕ → List ℕ → List ℕ
preds n cells = column PRED n cells

abbrev pub marked : ℕ → List ℕ → List ℕ
marked n cells = column MARK n cells

-- the state of the search that n cells hold
abbrev pub state : ℕ → List ℕ → St
state n cells = st (scores n cells) (preds n cells) (sums n cells)

-- before the first turn no node has a score, a predecessor or a queue entry
pub record Unreached (n : ℕ) (cells : List ℕ) : Type 0 where
  pub no_score : scores n cells ≡ replicate n UNSET
  pub no_pred : preds n cells ≡ replicate n none
  pub no_sum : sums n cells ≡ replicate n UNSET

-- a node's estimate is there once it was asked for
pub record Estimated (n : ℕ) (xs ys es l : List ℕ) : Type 0 where
  pub each : (v : ℕ) → v < n → (get_or l v 0 ≡ UNSET) ⊎ (get_or l v 0 ≡ nearest xs ys es v)

-- the ends are marked 1, other nodes 0
pub record Marked (n : ℕ) (es l : List ℕ) : Type 0 where
  pub each : (v : ℕ) → v < n → get_or l v 0 ≡ cond (holds v es) 1 0

-- the cells of a search of n nodes, and the tree beside them
pub record Held (n : ℕ) (xs ys es cells tree : List ℕ) : Type 0 where
  pub room : n * WIDTH ≤ length cells
  pub index : Indexed (sums n cells) tree
  pub known : Estimated n xs ys es (estimates n cells)
  pub ends : Marked n es (marked n cells)

-- the way back from v ends, after k nodes
pub data Back (n : ℕ) (p : List ℕ) : ℕ → ℕ → Type 0 where
  last : {v : ℕ} → v < n → get_or p v 0 ≡ none → Back n p v 1
  more : {v k : ℕ} → v < n → (get_or p v 0 ≡ none → ⊥) → Back n p (get_or p v 0) k → Back n p v (suc k)

pub record Traced (n : ℕ) (p : List ℕ) (v : ℕ) : Type 0 where
  pub nodes : ℕ
  pub back : Back n p v nodes
  pub fits : nodes ≤ n
