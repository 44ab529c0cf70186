-- The rows are the page of the lists now.
use Rattle.desk_layout.proofs.Call.{valid-asks, valid-on}
use Rattle.page_layout.specs.Drawing.{drawing_in}
use Rattle.desk_layout.proofs.layout_valid.Goals as goal

pub lay_out_page-requires : goal.lay_out_page-requires
lay_out_page-requires c =
    let p = valid-asks c.args.desk.now c.args.choice (drawing_in c.args.sheet.now) c.requires.desk_value _ c.records-records.ensures in
    record { asked = p.0; placed = p.1.0; few = p.1.1 }

pub returns : goal.returns
returns c =
    let e = c.lay_out_page.ensures in
    let p = valid-on c.args.desk.now c.args.choice (drawing_in c.args.sheet.now) c.requires.desk_value _ c.records-records.ensures _ _ e.value e.sheet_after in
    record { value = p.0; sheet_after = p.1; kept = e.kept }
