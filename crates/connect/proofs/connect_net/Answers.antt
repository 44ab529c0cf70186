use native.Mathlib.Omega.{arith}
use Rattle.std.proofs.Common.{refl, ◌≡◌, ◌∙◌, ap, length}
use Rattle.book.specs.Refusals.{code, number_of}
use Rattle.net.specs.Lent.{made_of}
use Rattle.path_finding.specs.Lent.{graph_in}
use Rattle.routing.specs.Roots.{root_pair}
use Rattle.book.proofs.Refusals.{refused}
use Rattle.wire.specs.Lent.{wires_of, words, xs_of, ys_of}
use Rattle.connect.proofs.Turning.{pair-in, prior-two, turns-all, connect-early, connect-refused, connect-done, length-words, length-xs}
use Rattle.connect.proofs.connect_net.Goals as goal

pub returns-in-Err-clause-value : goal.returns-in-Err-clause-value
returns-in-Err-clause-value c =
    let s = c.args in
    let k : number_of c.refuse.result ≡ code c.in-Err.early = ap number_of c.refuse.ensures.told in
    rw k (connect-early (graph_in s.finder.now) (xs_of s.points.now) (ys_of s.points.now) (wires_of s.wires.now).page s.joins.now.rows.now s.joins.now.j (code c.in-Err.early) (rw length-xs c.in-Err.ensures) _ (refused c.in-Err.early) c.refuse.ensures.value)

pub route_net-requires-clause-in_bounds : goal.route_net-requires-clause-in_bounds
route_net-requires-clause-in_bounds c =
    let s = c.args in
    let G = graph_in s.finder.now in
    let two = prior-two G.xs G.ys G.count (xs_of s.points.now) (ys_of s.points.now) 0 (rw length-xs c.in_default.ensures) refl in
    let p = pair-in (xs_of s.points.now) (ys_of s.points.now) (length s.points.now) _ (rw length-xs at two) refl in
    (rw c.pick_root_path-a.ensures.from p.0, rw c.pick_root_path-a.ensures.to p.1, c.requires.few)

pub returns-in-Err-route_net-clause-value : goal.returns-in-Err-route_net-clause-value
returns-in-Err-route_net-clause-value c =
    let s = c.args in
    let G = graph_in s.finder.now in
    let k : number_of c.refuse-in-Err-route_net.result ≡ code c.in-Err-route_net.late = ap number_of c.refuse-in-Err-route_net.ensures.told in
    let t = turns-all G (xs_of s.points.now) (ys_of s.points.now) (root_pair (xs_of s.points.now) (ys_of s.points.now) (length (xs_of s.points.now))) (wires_of s.wires.now).page (words s.wires.now.ends.now) s.joins.now.rows.now s.joins.now.j (made_of (code c.in-Err-route_net.late) c.route_net.new.wires c.route_net.new.joins) (length-words s.wires.now.ends.now ∙ omega arith) refl (rw length-xs (rw (c.pick_root_path-a.ensures.from, c.pick_root_path-a.ensures.to) at c.in-Err-route_net.ensures.value)) in
    rw k (connect-refused G (xs_of s.points.now) (ys_of s.points.now) (wires_of s.wires.now).page s.joins.now.rows.now s.joins.now.j 0 (rw length-xs c.in_default.ensures) refl _ t _ (refused c.in-Err-route_net.late) c.refuse-in-Err-route_net.ensures.value)

pub returns-clause-value : goal.returns-clause-value
returns-clause-value c =
    let s = c.args in
    let G = graph_in s.finder.now in
    let t = turns-all G (xs_of s.points.now) (ys_of s.points.now) (root_pair (xs_of s.points.now) (ys_of s.points.now) (length (xs_of s.points.now))) (wires_of s.wires.now).page (words s.wires.now.ends.now) s.joins.now.rows.now s.joins.now.j (made_of 0 c.route_net.new.wires c.route_net.new.joins) (length-words s.wires.now.ends.now ∙ omega arith) refl (rw length-xs (rw (c.pick_root_path-a.ensures.from, c.pick_root_path-a.ensures.to) at c.in_default-route_net.ensures.value)) in
    connect-done G (xs_of s.points.now) (ys_of s.points.now) (wires_of s.wires.now).page s.joins.now.rows.now s.joins.now.j 0 (rw length-xs c.in_default.ensures) refl _ t refl
