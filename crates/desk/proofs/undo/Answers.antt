-- `desk::undo` meets its contract. The tests in their order; the depth is the length of the pile.
use mathlib.Core.Path.{refl}
use native.Mathlib.Omega.{arith}
use Rattle.book.proofs.Fields.{lists-say}
use Rattle.desk.proofs.Whole
use Rattle.desk.proofs.undo.Goals as goal

pub returns-in_err-validate : goal.returns-in_err-validate
returns-in_err-validate c =
    let both = Whole.turned _ _ c.from_residual.ensures.1 c.in_err-validate.ensures _ _ _ in record { value = both.0; desk_after = both.1 }

pub bounds-desk-0 : goal.bounds-desk-0
bounds-desk-0 c = omega (arith, (Whole.sound-ok c.in_ok-validate.ensures).long)

pub returns-then-depth-eq0 : goal.returns-then-depth-eq0
returns-then-depth-eq0 c =
    let both = Whole.says-n _ 0 c.in_ok-validate.ensures _ _ _ refl 7 (lists-say {f = 0} refl refl (Whole.empty-pile _ c.if-depth-eq0.true)) (omega arith) in
    record { value = both.0; desk_after = both.1 }

pub take_latest-requires-clause-sound : goal.take_latest-requires-clause-sound
take_latest-requires-clause-sound c = Whole.sound-ok c.in_ok-validate.ensures

pub returns : goal.returns
returns c =
    let both = Whole.says-0 _ 0 c.in_ok-validate.ensures _ _ _ refl 0 (lists-say {f = 0} refl refl (Whole.some-pile _ c.if-depth-eq0.false)) refl _
    c.take_latest.ensures in
    record { value = both.0; desk_after = both.1 }
