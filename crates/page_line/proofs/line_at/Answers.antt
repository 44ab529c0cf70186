use Rattle.std.proofs.Common.{refl, arith, length-take, length-drop}
use Rattle.page_line.proofs.Lines as T
use Rattle.page_line.proofs.Shapes as S
use Rattle.page_line.proofs.line_at.Goals.{then-e-text-via-then-e-text, then-e-text-via-else-e-text+then-e-at-ge-LINE}
use Rattle.page_line.proofs.line_at.Goals as goal

pub returns-then-e-text : goal.returns-then-e-text
returns-then-e-text c =
    S.told_none _ _ (
    elim c.then-e-text.branch [
      | then-e-text-via-then-e-text w ↦ T.at_none _ _ _ w.if-e-text.true
      | then-e-text-via-else-e-text+then-e-at-ge-LINE w ↦ T.at_long _ _ _ _ w.if-e-text.false refl (simp (length-take, length-drop) (omega arith))
    ]
    )

pub returns : goal.returns
returns c = S.told-as _ _ _ _ _ c.read_line.ensures (T.at-line _ _ _ _ c.if-e-text.false refl (simp (length-take, length-drop) (omega arith)))
