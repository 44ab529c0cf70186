use Rattle.wire.proofs.Pushes.{node-straight, node-corner, corner-last, corner-inner}
use Rattle.wire.proofs.types.Wires.push_node.Goals as goal

pub returns-then-is_straight-clause-value : goal.returns-then-is_straight-clause-value
returns-then-is_straight-clause-value c = node-straight _ _ _ _ _ _ c.place_at-at.ensures.x_value c.place_at-at.ensures.y_value _ c.is_straight.ensures c.if-is_straight.true c.push_end.ensures.value

pub returns-then-i-line-clause-value : goal.returns-then-i-line-clause-value
returns-then-i-line-clause-value c = node-corner _ _ _ _ _ _ c.place_at-at.ensures.x_value c.place_at-at.ensures.y_value _ c.is_straight.ensures _ _ c.if-is_straight.false (corner-last _ _ _ c.if-i-line.true) c.push_corner.ensures.value

pub returns-else-i-line-clause-value : goal.returns-else-i-line-clause-value
returns-else-i-line-clause-value c = node-corner _ _ _ _ _ _ c.place_at-at.ensures.x_value c.place_at-at.ensures.y_value _ c.is_straight.ensures _ _ c.if-is_straight.false (corner-inner _ _ _ c.if-i-line.false) c.push_corner-else-i-line.ensures.value
