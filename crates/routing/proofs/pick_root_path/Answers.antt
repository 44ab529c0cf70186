use native.Mathlib.Omega.{arith}
use Rattle.std.proofs.Common.{ap, ◌∙◌, ℕ, ◌≡◌, ◌*◌, ◌/◌, ◌%◌, length}
use Rattle.routing.proofs.Pairs.{square-least, root_none, root-take, root-keep, root-done}
use Rattle.routing.proofs.pick_root_path.Goals as goal
use Rattle.routing.proofs.pick_root_path.Goals.{else-slant_of, then-slant_of}

pub loop-p-init : goal.loop-p-init
loop-p-init c = record { greatest = root_none _ _ _; below = omega (arith, square-least _ c.requires.0) }

pub loop-p-preserved : goal.loop-p-preserved
loop-p-preserved c =
    let l = c.loop-p in
    record {
      greatest = elim c.if-slant_of.branch [ then-slant_of w ↦ w.best-is ∙ root-take _ _ _ l.p l.best l.invariant.greatest _ _ c.slant_of.ensures c.slant_of-in-loop-p.ensures w.if-slant_of.true | else-slant_of w ↦ w.best-is ∙ root-keep _ _ _ l.p l.best l.invariant.greatest _ _ c.slant_of.ensures c.slant_of-in-loop-p.ensures w.if-slant_of.false ];
      below = elim c.if-slant_of.branch [ then-slant_of w ↦ omega (arith, w.best-is) | else-slant_of w ↦ omega (arith, w.best-is, l.invariant.below) ];
    }

pub returns-clause-from : goal.returns-clause-from
returns-clause-from c =
    let n = length c.args.points.now in
    let e : c.loop-p.p ≡ n * n = omega arith in
    ap (λ (p : ℕ). p / n) (root-done _ _ _ c.loop-p.p _ e c.loop-p.invariant.greatest)

pub returns-clause-to : goal.returns-clause-to
returns-clause-to c =
    let n = length c.args.points.now in
    let e : c.loop-p.p ≡ n * n = omega arith in
    ap (λ (p : ℕ). p % n) (root-done _ _ _ c.loop-p.p _ e c.loop-p.invariant.greatest)
