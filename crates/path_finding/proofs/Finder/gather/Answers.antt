use Rattle.std.proofs.Common.{◌∙◌, rules, arith}
use Rattle.path_finding.proofs.Laws.{gathering-none, gathering-in, gathering-on}
use Rattle.path_finding.proofs.Keeping.{kept-refl, kept_trans}
use Rattle.path_finding.proofs.Finder.gather.Goals as goal

pub loop-i-init : goal.loop-i-init
loop-i-init c = record { gathering = gathering-none _ _ _ _ _ c.requires.unmarked; tree = search rules; kept = kept-refl }

pub take_end-m-requires-clause-inside : goal.take_end-m-requires-clause-inside
take_end-m-requires-clause-inside c =
    let held = c.loop-i.invariant.gathering in
    rw c.loop-i.invariant.kept.same_graph (gathering-in _ _ _ _ _ _ _ _ _ held c.loop-i-test.true c.requires.ends.0 c.requires.ends.1, omega (arith, held.few, held.long, c.requires.ends.0))

pub loop-i-preserved : goal.loop-i-preserved
loop-i-preserved c =
    let same = c.loop-i.invariant.kept.same_graph in
    let value = rw same at c.take_end-m.ensures.value in
    let marked = rw same at c.take_end-m.ensures.marked in
    let only = rw same at c.take_end-m.ensures.only in
    record {
      gathering = gathering-on _ _ _ _ _ _ _ _ _ c.loop-i.invariant.gathering c.loop-i-test.true _ _ _ c.take_end-m.ensures.few value marked only c.take_end-m.ensures.behind c.take_end-m.ensures.kept.long_list;
      tree = c.take_end-m.ensures.tree ∙ c.loop-i.invariant.tree;
      kept = kept_trans c.loop-i.invariant.kept c.take_end-m.ensures.kept;
    }
