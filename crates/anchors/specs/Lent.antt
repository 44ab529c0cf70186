-- The records of a page as the record of their lists: each list has as many rows as fit.
use Rattle.std.specs.Prelude.{◌/◌, length}
use Rattle.anchors.specs.Records.{BOX, ROW, NET, Records, records}
use Rattle.anchors.specs.declared.Records.{Records as Lent}

abbrev pub records_in : Lent → Records
records_in r =
    records r.boxes.now (length r.boxes.now / BOX) r.ports.now (length r.ports.now / ROW)
    r.nets.now (length r.nets.now / NET) r.ends.now (length r.ends.now / ROW)
