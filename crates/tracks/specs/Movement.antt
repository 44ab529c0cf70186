-- 01, 'Separation': the movement of a vertex pair.
use Rattle.std.specs.Prelude.{Bool, true, false, cond, None, Some, ◌&&◌, ◌||◌}
use Rattle.vertex.specs.Kinds.{start, dummy, end}
use Rattle.vertex.specs.declared.JunctionKind.TheVariants.{Corner, LineSegment}
use Rattle.vertex.specs.declared.VertexKind.{VertexKind}
use Rattle.vertex.specs.declared.VertexKind.TheVariants.{WireStart, Dummy, Normal, WireEnd}
use Rattle.tracks.specs.declared.types.Movement.{Movement}
use Rattle.tracks.specs.declared.types.Movement.TheVariants.{Skipped, Free, Restricted, Locked}

-- an end on a corner
abbrev pub on_corner : VertexKind → Bool
on_corner (WireStart is_root) = false
on_corner Dummy = false
on_corner Normal = false
on_corner (WireEnd None) = false
on_corner (WireEnd (Some Corner)) = true
on_corner (WireEnd (Some LineSegment)) = false

-- an end, no junction
abbrev pub no_junction : VertexKind → Bool
no_junction (WireStart is_root) = false
no_junction Dummy = false
no_junction Normal = false
no_junction (WireEnd None) = true
no_junction (WireEnd (Some Corner)) = false
no_junction (WireEnd (Some LineSegment)) = false

-- the table's rows in its order: the first that fits
abbrev pub movement : VertexKind → VertexKind → Movement
movement first second =
    cond (end first) Skipped
    (cond (on_corner second) Skipped
    (cond (start first && dummy second) Skipped
    (cond (dummy first && (dummy second || end second)) Skipped
    (cond (start first) Locked
    (cond (no_junction second) Locked
    (cond (dummy first || dummy second) Restricted Free))))))
