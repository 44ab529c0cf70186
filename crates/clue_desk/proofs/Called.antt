-- What a caller's arguments are as a call: its record's row, or its coordinates.
use mathlib.Core.Path.{◌≡◌, refl, ap}
use mathlib.Core.List.{List, [], ◌∷◌}
use Prim.Native.Nat.{ℕ}
use lib.IntN.{ℤ}
use Rattle.fixed.specs.Up.{up}
use Rattle.desk_search.specs.Query.{query}
use Rattle.desk_search.specs.Search.{Outputs, desk_number, desk_outputs}
use Rattle.book.specs.declared.Kind.{Kind}
use Rattle.desk.specs.Calls.{Call, number, words, box_record, point_record, net_record}
use Rattle.desk.specs.Calls.Call.{add}
use Rattle.clue_desk.specs.Calls.Outputs.{lined}

pub as_called : (c d : Call) (ws w : List ℕ) (r : ℕ) → c ≡ d → (r ≡ number c ws) × (w ≡ words c ws) → (r ≡ number d ws) × (w ≡ words d ws)
as_called c d ws w r e p = rw e at p

pub box-call : (id a b c d : ℕ) (x0 y0 x1 y1 : ℤ) → a ≡ up x0 → b ≡ up y0 → c ≡ up x1 → d ≡ up y1
    → add Kind.Box (id ∷ a ∷ b ∷ c ∷ d ∷ []) ≡ add Kind.Box (box_record id x0 y0 x1 y1)
unfolding box_record
box-call id a b c d x0 y0 x1 y1 e f g h = rw (e, f, g, h)

pub point-call : (k : Kind) (id a b m : ℕ) (x y : ℤ) → a ≡ up x → b ≡ up y → add k (id ∷ a ∷ b ∷ m ∷ []) ≡ add k (point_record id x y m)
unfolding point_record
point-call k id a b m x y e f = rw (e, f)

pub net-call : (id : ℕ) → add Kind.Net (id ∷ []) ≡ add Kind.Net (net_record id)
unfolding net_record
net-call id = refl

pub search-called : (ws : List ℕ) (o p : Outputs) (r prune a b : ℕ) (x y : ℤ) (ex ey : List ℤ) → a ≡ up x → b ≡ up y
    → (r ≡ desk_number ws o (query prune a b ex ey)) × (p ≡ desk_outputs ws o (query prune a b ex ey))
    → (r ≡ desk_number ws o (query prune (up x) (up y) ex ey)) × (lined p ≡ lined (desk_outputs ws o (query prune (up x) (up y) ex ey)))
search-called ws o p r prune a b x y ex ey e f h = rw (← e, ← f) (h.0, ap lined h.1)
