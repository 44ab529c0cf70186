-- The lent rows of junctions, and the end that a branch joins.
use Rattle.std.specs.Prelude.{◌≡◌, ℕ}
use Rattle.wire.specs.Ends.{end_x_at, end_y_at, end_vertex, end_kind}
use Rattle.wire.specs.Lines.{Line}
use Rattle.wire.specs.Wires.{Ends}
use Rattle.wire.specs.declared.types.End.{End}
use Rattle.routing.specs.Branches.{joined_end}
use Rattle.routing.specs.declared.types.Joins.{Joins}

-- the rows are the same lent ones
pub record KeptRows (j k : Joins) : Type 0 where
  pub same_rows : k.rows.ghost_name ≡ j.rows.ghost_name

-- the end r is the one that a branch from (sx, sy) joins
pub record JoinedEnd (L : Line) (sx sy : ℕ) (E : Ends) (r : End) : Type 0 where
  pub x : r.at.x ≡ end_x_at E.rows (joined_end L sx sy E)
  pub y : r.at.y ≡ end_y_at E.rows (joined_end L sx sy E)
  pub vertex : r.vertex ≡ end_vertex E.rows (joined_end L sx sy E)
  pub letter : r.letter ≡ end_kind E.rows (joined_end L sx sy E)
