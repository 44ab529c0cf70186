-- Each list has as many rows as records.
use Rattle.anchors.specs.declared.Records.{Records}
use Rattle.desk.specs.Desk.{book_of}
use Rattle.desk.proofs.Valid.{head_ok}
use Rattle.select.proofs.Ok.{page-in}
use Rattle.select.proofs.records.Goals as goal

pub returns : goal.returns
unfolding book_of
returns c =
    let r : Records = record { boxes = c.rows_of.result; ports = c.rows_of-2.result; nets = c.rows_of-3.result; ends = c.rows_of-4.result } in
    page-in _ (head_ok c.args.desk.now c.requires.desk_value) r c.rows_of.ensures c.rows_of-2.ensures c.rows_of-3.ensures c.rows_of-4.ensures
