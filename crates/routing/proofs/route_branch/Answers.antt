use Rattle.std.proofs.Common.{rules, refl, ◌≡◌}
use native.Mathlib.Omega.{arith}
use Rattle.book.specs.Refusals.{code, number_of}
use Rattle.wire.specs.Lent.{wires_of}
use Rattle.book.proofs.Refusals.{refused}
use Rattle.routing.proofs.Alike.{branch-wire}
use Rattle.routing.proofs.Limits.{made}
use Rattle.routing.proofs.Tries.{branch-tried, branch-refused, branch-joined}
use Rattle.routing.proofs.route_branch.Goals as goal

pub returns-in_err-route_wire-clause-value : goal.returns-in_err-route_wire-clause-value
returns-in_err-route_wire-clause-value c =
    let k : number_of c.from_residual.result ≡ code c.in_err-route_wire.field-0.0 = search rules in
    branch-tried _ _ _ _ (wires_of c.args.wires.now) _ refl _ refl _ (rw k (branch-wire _ _ _ _ (wires_of c.args.wires.now) _ _ _ c.joined_end-end.ensures c.kind.ensures c.in_err-route_wire.ensures.value))

pub returns-in_err-route_wire-clause-joins_value : goal.returns-in_err-route_wire-clause-joins_value
returns-in_err-route_wire-clause-joins_value c =
    branch-refused _ _ _ _ (wires_of c.args.wires.now) _ refl _ refl _ (branch-wire _ _ _ _ (wires_of c.args.wires.now) _ _ _ c.joined_end-end.ensures c.kind.ensures c.in_err-route_wire.ensures.value) _ _ (refused c.in_err-route_wire.field-0.0)

pub overflow_sub-wires : goal.overflow_sub-wires
overflow_sub-wires c =
    let w = c.args.wires.now in
    let k = made _ _ _ _ _ _ _ _ (wires_of w) _ c.in_ok-route_wire.ensures.value w.few_vertices w.few_ends refl in omega arith

pub returns-clause-value : goal.returns-clause-value
returns-clause-value c =
    branch-tried _ _ _ _ (wires_of c.args.wires.now) _ refl _ refl _ (branch-wire _ _ _ _ (wires_of c.args.wires.now) _ _ _ c.joined_end-end.ensures c.kind.ensures c.in_ok-route_wire.ensures.value)

pub returns-clause-joins_value : goal.returns-clause-joins_value
returns-clause-joins_value c =
    branch-joined _ _ _ _ (wires_of c.args.wires.now) _ refl _ refl _ (branch-wire _ _ _ _ (wires_of c.args.wires.now) _ _ _ c.joined_end-end.ensures c.kind.ensures c.in_ok-route_wire.ensures.value) _ _ _ refl (rw (← c.joined_end-end.ensures.vertex, ← c.joined_end-end.ensures.letter) c.push.ensures.value)
