use mathlib.Core.Path.{sym, ap, ◌∙◌, refl}
use native.Mathlib.Omega.{arith}
use Rattle.std.specs.Prelude.{Err}
use Rattle.page_line.proofs.Lines.{line-end}
use Rattle.page_text.proofs.Turns as T
use Rattle.page_text.proofs.read_lines.Goals as goal

pub loop-at-init : goal.loop-at-init
loop-at-init c = T.read_first _ _ _ c.requires c.empty.ensures

pub overflow_add-line : goal.overflow_add-line
overflow_add-line c = omega (arith, T.lines-few _ _ _ _ _ c.loop-at.invariant)

pub take_line-requires : goal.take_line-requires
take_line-requires c = record { ready = c.loop-at.invariant.ready; at_le_e = (omega (arith, c.find-e.ensures), line-end _ _ _ c.find-e.ensures (omega arith)) }

pub empty-requires-in-Err : goal.empty-requires-in-Err
empty-requires-in-Err c = omega (arith, c.take_line.auto.desk, c.loop-at.invariant.ready.long)

pub returns-in-Err : goal.returns-in-Err
returns-in-Err c =
    let p = T.turn-bad _ _ _ _ c.loop-at.at _ c.loop-at.line _ c.loop-at.invariant c.find-e.ensures (omega arith)
    c.in-Err.ensures.value c.in-Err.ensures.desk_after c.from.result (ap Err (sym c.from.ensures)) in
    let both = T.finish _ _ _ _ _ _ c.empty.ensures (p.0, p.1 ∙ sym c.empty-in-Err.ensures) (T.stop-at _ _) in
    record { value = both.0; desk_after = both.1 }

pub overflow_add-at : goal.overflow_add-at
overflow_add-at c = omega (arith, line-end _ _ _ c.find-e.ensures (omega arith))

pub loop-at-smaller : goal.loop-at-smaller
loop-at-smaller c = omega (arith, c.find-e.ensures)

pub loop-at-preserved : goal.loop-at-preserved
loop-at-preserved c =
    T.turn_on _ _ _ _ c.loop-at.at _ c.loop-at.line _ c.loop-at.invariant c.find-e.ensures (omega arith)
    c.in_default.ensures.value c.in_default.ensures.desk_after refl

pub returns : goal.returns
returns c =
    let both = T.finish _ _ _ _ _ _ c.empty.ensures (T.turn_end _ _ _ c.loop-at.at _ c.loop-at.invariant (omega arith)) (T.stop-none _) in
    record { value = both.0; desk_after = both.1 }
