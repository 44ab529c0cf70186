use Rattle.std.proofs.Common.{◌≡◌, ◌<◌, length, sym, rules, arith}
use Rattle.fixed.proofs.Lists.{length-ups}
use Rattle.path_finding.specs.Lent.{ends_x}
use Rattle.path_finding.proofs.Laws.{table-begin, table_more, known-begin, known-on, known-off}
use Rattle.path_finding.proofs.Keeping.{kept-refl}
use Rattle.path_finding.proofs.Finder.look_up_each.Goals as goal

pub loop-i-init : goal.loop-i-init
loop-i-init c = record { known = known-begin _ _ _ _ _; nodes = table-begin _; kept = kept-refl }

pub returns-in_default-clause-known : goal.returns-in_default-clause-known
returns-in_default-clause-known c =
    let none = rw c.loop-i.invariant.kept.same_graph at c.in_default.ensures in
    known-off _ _ _ _ _ c.loop-i.i _ (omega (arith, length-ups c.args.ends.x.now)) none

pub loop-i-preserved : goal.loop-i-preserved
loop-i-preserved c =
    let some = rw c.loop-i.invariant.kept.same_graph at c.in-Some.ensures in
    let room : c.loop-i.i < length c.loop-i.self.list.now = omega (arith, c.loop-i.invariant.kept.long_list) in
    record { known = known-on _ _ _ _ _ _ _ c.loop-i.invariant.known some; nodes = table_more _ _ _ _ c.loop-i.invariant.nodes room some.0; kept = search rules }

pub returns-clause-known : goal.returns-clause-known
returns-clause-known c =
    let e : c.loop-i.i ≡ length (ends_x c.args.ends) = omega (arith, length-ups c.args.ends.x.now) in
    rw e at c.loop-i.invariant.known

pub returns-clause-value : goal.returns-clause-value
returns-clause-value c =
    let e : c.loop-i.i ≡ length c.args.ends.x.now = omega arith in
    let same : length c.args.ends.x.now ≡ length (ends_x c.args.ends) = sym (length-ups _) in
    λ known. rw (← same, ← e) c.loop-i.invariant.nodes
