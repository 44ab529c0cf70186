use mathlib.Core.Path.{ap}
use mathlib.Core.List.{List}
use Prim.Native.Nat.{ℕ}
use lib.ListN.{set}
use native.Mathlib.Omega.{arith}
use Rattle.page_text.proofs.Told as W
use Rattle.page_text.proofs.read_text.Goals as goal

pub returns-then-desk-lt-DESK : goal.returns-then-desk-lt-DESK
returns-then-desk-lt-DESK c =
    let p = W.short-desk c.args.text.now c.args.desk.now c.args.refusal.now c.if-desk-lt-DESK.true in
    record { value = p.0; desk_after = p.1; refusal_after = p.2 }

pub returns-then-refusal-lt-REFUSAL : goal.returns-then-refusal-lt-REFUSAL
returns-then-refusal-lt-REFUSAL c =
    let p = W.short-out c.args.text.now c.args.desk.now c.args.refusal.now c.if-refusal-lt-REFUSAL.true in
    record { value = p.0; desk_after = p.1; refusal_after = p.2 }

pub returns-in-Err : goal.returns-in-Err
returns-in-Err c =
    let p = W.ends-16 c.args.text.now c.args.desk.now c.args.refusal.now (omega arith) (omega arith) _ c.in-Err.ensures.desk_after c.in-Err.stop c.in-Err.ensures.value _
    (ap (λ (l : List ℕ). set (set l 0 c.in-Err.stop.line) 1 c.in-Err.stop.inner) (c.fill.ensures.after (λ y q. q))) in
    record { value = p.0; desk_after = p.1; refusal_after = p.2 }

pub returns : goal.returns
returns c =
    let p = W.ends-0 c.args.text.now c.args.desk.now c.args.refusal.now (omega arith) (omega arith) _ c.in_default.ensures.desk_after c.in_default.ensures.value _
    (c.fill.ensures.after (λ y q. q)) in
    record { value = p.0; desk_after = p.1; refusal_after = p.2 }
