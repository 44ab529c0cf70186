-- What lies behind the part that is handed on.
use Rattle.std.proofs.Common.{◌∙◌, arith}
use Rattle.std.proofs.lemmas.List.{length-take-le}
use Rattle.std.proofs.lemmas.Slice.{drop-append-drop}
use Rattle.corridors.proofs.Crossing.{part-kept}
use Rattle.corridors.proofs.generate_implicit_anchors.Goals as goal

pub returns-clause-behind : goal.returns-clause-behind
returns-clause-behind c =
    drop-append-drop 2048 c.args.anchors.now c.implicit_anchors.new.anchors 2048 (omega arith) (c.implicit_anchors.auto.anchors ∙ length-take-le 2048 c.args.anchors.now c.requires.room)

pub returns-clause-rest : goal.returns-clause-rest
returns-clause-rest c =
    part-kept c.implicit_anchors.result c.args.anchors.now c.implicit_anchors.new.anchors _ c.requires.room c.implicit_anchors.auto.anchors c.implicit_anchors.ensures.value c.implicit_anchors.ensures.rest
