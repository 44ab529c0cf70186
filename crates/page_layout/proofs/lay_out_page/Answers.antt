-- Zeros on a crowded page, on any other the nets on its graph.
use Rattle.anchors.specs.Lent.{records_in}
use Rattle.page_layout.proofs.Laying.{number-full, number_fits, grounded, laid-full, laid-fits}
use Rattle.page_layout.proofs.lay_out_page.Goals as goal

pub lay_out-requires-clause-ground : goal.lay_out-requires-clause-ground
lay_out-requires-clause-ground c =
    let told = c.in-Some.ensures in
    grounded (records_in c.args.records) told.0 c.args.pruned _ told.1 c.requires.asked c.requires.placed

pub returns-in-None : goal.returns-in-None
returns-in-None c =
    let r = records_in c.args.records in
    let full = c.in-None.ensures in
    record { value = number-full r full; sheet_after = laid-full r c.args.pruned c.args.apart _ _ _ _ _ _ _ _ _ _ full c.clear.ensures.cleared; kept = c.clear.ensures.kept }

pub returns-in-Some : goal.returns-in-Some
returns-in-Some c =
    let r = records_in c.args.records in
    let told = c.in-Some.ensures in
    let laid = c.lay_out.ensures in
    record { value = number_fits r told.0; sheet_after = laid-fits r c.args.pruned c.args.apart _ _ _ _ _ _ _ _ _ _ told.0 _ told.1 _ _ laid.value; kept = laid.kept }
