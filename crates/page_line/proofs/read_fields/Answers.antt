use Rattle.std.proofs.Common.{sym, ◌∙◌, arith, rules, tests}
use Rattle.std.proofs.lemmas.List.{length_push}
use Rattle.std.proofs.lemmas.Iterator.Consumers.{YieldsList-turn, YieldsList-end}
use Rattle.page_line.proofs.Shapes as S
use Rattle.page_line.proofs.read_fields.Goals as goal

pub returns-then-n-eq-MOST-clause-value : goal.returns-then-n-eq-MOST-clause-value
returns-then-n-eq-MOST-clause-value c =
    let t = YieldsList-turn (S.yields-fields {s = c.into_iter-field-iterator.result} _ {f = c.split-field-items.result.pred} c.args.s.now (cc) (cc) (cc) (λ x b q k. search (rules, tests))) c.loop-field.yielded _ c.loop-field.yielded_by _ _ c.in-Some.field c.in-Some.is c.next.ensures.steps in
    S.fields_full _ _ _ c.loop-field.invariant.1 (omega (arith, t.0)) c.if-n-eq-MOST.true

pub returns-in_err-vals-clause-value : goal.returns-in_err-vals-clause-value
returns-in_err-vals-clause-value c =
    let t = YieldsList-turn (S.yields-fields {s = c.into_iter-field-iterator.result} _ {f = c.split-field-items.result.pred} c.args.s.now (cc) (cc) (cc) (λ x b q k. search (rules, tests))) c.loop-field.yielded _ c.loop-field.yielded_by _ _ c.in-Some.field c.in-Some.is c.next.ensures.steps in
    c.from_residual.ensures ∙ S.fields-bad _ _ _ c.loop-field.invariant.1 c.in-Some.field.now (omega (arith, t.0)) (rw (← c.loop-field.invariant.0) at t.1) (sym c.in_err-vals.was ∙ c.read_number.ensures)

pub loop-field-preserved : goal.loop-field-preserved
loop-field-preserved c =
    let t = YieldsList-turn (S.yields-fields {s = c.into_iter-field-iterator.result} _ {f = c.split-field-items.result.pred} c.args.s.now (cc) (cc) (cc) (λ x b q k. search (rules, tests))) c.loop-field.yielded _ c.loop-field.yielded_by _ _ c.in-Some.field c.in-Some.is c.next.ensures.steps in
    let l = length_push c.loop-field.yielded c.in-Some.field in (
      omega (arith, l),
      S.fields-on _ _ _ c.loop-field.invariant.1 c.in-Some.field.now (omega (arith, t.0)) (rw (← c.loop-field.invariant.0) at t.1) _ (sym c.in_ok-vals.was ∙ c.read_number.ensures) (omega arith) (omega arith),
    )

pub returns-clause-value : goal.returns-clause-value
returns-clause-value c =
    let t = YieldsList-end (S.yields-fields {s = c.into_iter-field-iterator.result} _ {f = c.split-field-items.result.pred} c.args.s.now (cc) (cc) (cc) (λ x b q k. search (rules, tests))) c.loop-field.yielded _ c.loop-field.yielded_by _ _ c.in-None.is c.next.ensures.steps in
    (S.fields-end _ _ _ c.loop-field.invariant.1 (omega (arith, t.1))).0

pub returns-clause-vals_after : goal.returns-clause-vals_after
returns-clause-vals_after c =
    let t = YieldsList-end (S.yields-fields {s = c.into_iter-field-iterator.result} _ {f = c.split-field-items.result.pred} c.args.s.now (cc) (cc) (cc) (λ x b q k. search (rules, tests))) c.loop-field.yielded _ c.loop-field.yielded_by _ _ c.in-None.is c.next.ensures.steps in
    (S.fields-end _ _ _ c.loop-field.invariant.1 (omega (arith, t.1))).1
