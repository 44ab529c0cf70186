-- The edges of the boxes are coordinates of a page.
use Rattle.std.proofs.Common.{rules}
use Rattle.page_graph.proofs.Parts.{bounded}
use Rattle.vectors.proofs.page.implicit_anchors.Goals as goal

pub generate_implicit_anchors-requires-clause-edges_bound : goal.generate_implicit_anchors-requires-clause-edges_bound
generate_implicit_anchors-requires-clause-edges_bound c =
    let p = c.pad_boxes.ensures in
    bounded _ _ _ _ p.min_x p.min_y p.max_x p.max_y c.pad_boxes.auto.out (search rules) c.in_ok-records.ensures.edged
