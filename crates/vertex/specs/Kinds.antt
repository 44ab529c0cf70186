-- 01, 'Nets' and the listing of `wires`: a vertex is a root or branch start, a dummy, a normal corner or a wire's end; a wire's end carries either no
-- junction or its kind, corner or line segment. The listing's letters: R root start, B branch start, D dummy, N normal, E end, C end on a corner, L end
-- on a line segment.
use Rattle.std.specs.Prelude.{Bool, true, false, cond, List, [], ◌∷◌, ℕ, Option, None, Some, eqb}
use Rattle.vertex.specs.declared.JunctionKind.{JunctionKind}
use Rattle.vertex.specs.declared.JunctionKind.TheVariants.{Corner, LineSegment}
use Rattle.vertex.specs.declared.VertexKind.{VertexKind}
use Rattle.vertex.specs.declared.VertexKind.TheVariants.{WireStart, Dummy, Normal, WireEnd}

-- what the end of a wire carries
abbrev pub Junction : Type 0
Junction = Option JunctionKind

-- the letters R B D N E C L, as bytes
abbrev pub LETTERS : List ℕ
LETTERS = 82 ∷ 66 ∷ 68 ∷ 78 ∷ 69 ∷ 67 ∷ 76 ∷ []

-- the letter of a kind
abbrev pub letter_of : VertexKind → ℕ
letter_of (WireStart is_root) = cond is_root 82 66
letter_of Dummy = 68
letter_of Normal = 78
letter_of (WireEnd None) = 69
letter_of (WireEnd (Some Corner)) = 67
letter_of (WireEnd (Some LineSegment)) = 76

-- the kind that a letter stands for; any other byte is read as a normal corner
abbrev pub kind_of : ℕ → VertexKind
kind_of l =
    cond (eqb l 82) (WireStart true)
    (cond (eqb l 66) (WireStart false)
    (cond (eqb l 68) Dummy
    (cond (eqb l 69) (WireEnd None)
    (cond (eqb l 67) (WireEnd (Some Corner))
    (cond (eqb l 76) (WireEnd (Some LineSegment)) Normal)))))

-- a start of a wire
abbrev pub start : VertexKind → Bool
start (WireStart is_root) = true
start Dummy = false
start Normal = false
start (WireEnd junction) = false

-- a dummy
abbrev pub dummy : VertexKind → Bool
dummy (WireStart is_root) = false
dummy Dummy = true
dummy Normal = false
dummy (WireEnd junction) = false

-- an end of a wire
abbrev pub end : VertexKind → Bool
end (WireStart is_root) = false
end Dummy = false
end Normal = false
end (WireEnd junction) = true
