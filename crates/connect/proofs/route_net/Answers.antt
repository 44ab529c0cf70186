use native.Mathlib.Omega.{arith}
use Rattle.std.proofs.Common.{rules, refl, ◌≡◌, ◌∙◌, ◌+◌, ◌-◌, length}
use Rattle.book.specs.Refusals.{code, number_of}
use Rattle.net.specs.Lent.{made_of}
use Rattle.path_finding.specs.Lent.{graph_in}
use Rattle.path_finding.proofs.Keeping.{kept_trans}
use Rattle.wire.proofs.Keeping.{wires_trans}
use Rattle.net.proofs.Branching.{room_for}
use Rattle.book.proofs.Refusals.{refused}
use Rattle.wire.specs.Lent.{xs_of, ys_of}
use Rattle.connect.proofs.Turning.{root-places, turns-root, turns-branch, turns-refused, turns-bounds}
use Rattle.connect.proofs.route_net.Goals as goal

pub returns-in_err-root-clause-value : goal.returns-in_err-root-clause-value
returns-in_err-root-clause-value c =
    let s = c.args in
    let k : number_of c.from_residual.result ≡ code c.in_err-root.field-0.0 = search rules in
    let e : length s.points.now + 1 ≡ 1 + length s.points.now = omega arith in
    rw (k, e) (turns-refused (graph_in s.finder.now) _ _ s.a s.b _ 1 (made_of 0 s.wires.now s.joins.now) _ (omega arith) (turns-root _ _ _ _ _ _ _ _ (c.in_err-root.ensures.value ∙ root-places _ s.points.now s.a s.b _ _ refl)) (refused c.in_err-root.field-0.0))

pub loop-i-init : goal.loop-i-init
loop-i-init c =
    let s = c.args in
    record {
      value = turns-root (graph_in s.finder.now) _ _ s.a s.b (made_of 0 s.wires.now s.joins.now) _ _ (c.in_ok-root.ensures.value ∙ root-places _ s.points.now s.a s.b _ _ refl);
      kept_wires = c.in_ok-root.ensures.kept_wires;
      kept_rows = search rules;
      kept = c.in_ok-root.ensures.kept;
    }

pub branch_at-requires-clause-room : goal.branch_at-requires-clause-room
branch_at-requires-clause-room c =
    let s = c.args in
    let l = c.loop-i in
    let r = room_for (turns-bounds (graph_in s.finder.now) (xs_of s.points.now) (ys_of s.points.now) s.a s.b (l.i + 1) (made_of 0 s.wires.now s.joins.now) (made_of 0 l.wires l.joins) (omega arith) l.invariant.value s.wires.now.few_vertices c.requires.fresh.0 c.requires.fresh.1 refl) in
    (r.1, r.3)

pub returns-in_err-branch_at-clause-value : goal.returns-in_err-branch_at-clause-value
returns-in_err-branch_at-clause-value c =
    let s = c.args in
    let l = c.loop-i in
    let m = l.invariant.kept in
    let k : number_of c.from_residual-in_err-branch_at.result ≡ code c.in_err-branch_at.field-0.0 = search rules in
    let e : length s.points.now + 1 ≡ l.i + 1 + 1 + (length s.points.now - l.i - 1) = omega arith in
    rw (k, e) (turns-refused (graph_in s.finder.now) _ _ s.a s.b _ (l.i + 1 + 1) (made_of 0 s.wires.now s.joins.now) _ (omega arith) (turns-branch _ _ _ _ _ l.i _ (made_of 0 l.wires l.joins) _ l.invariant.value (rw (← m.same_graph) c.in_err-branch_at.ensures.value)) (refused c.in_err-branch_at.field-0.0))

pub loop-i-preserved : goal.loop-i-preserved
loop-i-preserved c =
    let s = c.args in
    let l = c.loop-i in
    let b = c.in_ok-branch_at.ensures in
    let m = l.invariant in
    record {
      value = turns-branch (graph_in s.finder.now) _ _ s.a s.b l.i _ (made_of 0 l.wires l.joins) _ l.invariant.value (rw (← m.kept.same_graph) b.value);
      kept_wires = wires_trans m.kept_wires b.kept_wires;
      kept_rows = record { same_rows = b.kept_rows.same_rows ∙ m.kept_rows.same_rows };
      kept = kept_trans m.kept b.kept;
    }
