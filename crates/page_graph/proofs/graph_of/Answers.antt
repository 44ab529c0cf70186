-- The boxes and the explicit anchors are those of the records; behind these the implicit ones are laid, if there are not too many of them.
use Rattle.std.proofs.Common.{refl, rules, arith}
use Rattle.page_graph.proofs.Answering.{page-full, page-made}
use Rattle.page_graph.proofs.Parts.{padded-by, bounded}
use Rattle.page_graph.proofs.graph_of.Goals as goal

pub generate_implicit_anchors-requires-clause-edges_bound : goal.generate_implicit_anchors-requires-clause-edges_bound
generate_implicit_anchors-requires-clause-edges_bound c =
    let p = c.pad_boxes.ensures in
    bounded _ _ _ _ p.min_x p.min_y p.max_x p.max_y c.pad_boxes.auto.out (search rules) c.requires.edged

pub returns-in_err-implicit : goal.returns-in_err-implicit
returns-in_err-implicit c =
    let p = c.pad_boxes.ensures in
    let b = padded-by c.args.records.boxes.now _ _ _ p.min_x p.min_y p.max_x p.max_y c.pad_boxes.auto.out (search rules) in
    rw c.from_residual.ensures (page-full _ _ _ _ b c.explicit-explicit.ensures.out_value c.in_err-implicit.ensures.value)

pub returns : goal.returns
returns c =
    let p = c.pad_boxes.ensures in
    let b = padded-by c.args.records.boxes.now _ _ _ p.min_x p.min_y p.max_x p.max_y c.pad_boxes.auto.out (search rules) in
    page-made _ _ _ _ b c.explicit-explicit.ensures.out_value _ _ _ _ _ _ _ (omega (arith, c.explicit-explicit.ensures.upper_bound, c.explicit-explicit.auto.out)) c.in_ok-implicit.ensures.value refl c.make.ensures
