-- The end that a branch joins, as a struct and as its words.
--     end-there      the end i
--     branch-wire    a wire to the end that is joined is a branch
use mathlib.Core.Path.{◌≡◌}
use mathlib.Core.Bool.{Bool, false}
use mathlib.Core.List.{List}
use Prim.Native.Nat.{ℕ, ◌<◌}
use lib.Dec.{eqb}
use lib.ListN.{length, get_or}
use Rattle.vertex.specs.Kinds.{Junction}
use Rattle.vertex.specs.Pages.{carried}
use Rattle.wire.specs.declared.types.End.{End}
use Rattle.wire.specs.Ends.{CORNER, end_x_at, end_y_at, end_kind}
use Rattle.wire.specs.Lent.{words}
use Rattle.wire.specs.Lines.{Line}
use Rattle.wire.specs.Wires.{ends, Wires}
use Rattle.wire.proofs.Words.{word-x, word-y, word-vertex, word-kind}
use Rattle.routing.specs.Branches.{Tried, joined_end, route_wire}
use Rattle.routing.specs.Lent.{JoinedEnd}

pub end-there : (d : End) (L : Line) (sx sy m : ℕ) (es : List End) (i : ℕ) → i < length es → i ≡ joined_end L sx sy (ends (words es) m) → JoinedEnd L sx sy (ends (words es) m) (get_or es i d)
end-there d L sx sy m es i h e =
    record { x = rw (← e) (word-x d es i h); y = rw (← e) (word-y d es i h); vertex = rw (← e) (word-vertex d es i h); letter = rw (← e) (word-kind d es i h) }

pub branch-wire : (L : Line) (sx sy : ℕ) (along : Bool) (W : Wires) (r : End) (J : Junction) (T : Tried) → JoinedEnd L sx sy W.net r → J ≡ carried (eqb r.letter CORNER) → T ≡ route_wire L sx sy r.at.x r.at.y along false J W
    → T ≡ route_wire L sx sy (end_x_at W.net.rows (joined_end L sx sy W.net)) (end_y_at W.net.rows (joined_end L sx sy W.net)) along false (carried (eqb (end_kind W.net.rows (joined_end L sx sy W.net)) CORNER)) W
branch-wire L sx sy along W r J T e j t = rw (← e.x, ← e.y, ← e.letter, ← j) t
