use Rattle.fixed.proofs.Lists.{ups-take}
use Rattle.path_finding.proofs.Lines.{table-self}
use Rattle.path_finding.proofs.Output.write.Goals as goal

pub returns-clause-written : goal.returns-clause-written
returns-clause-written c =
    record {
      x_is = table-self _ _ _ (rw ups-take at c.write_places.ensures);
      y_is = table-self _ _ _ (rw ups-take at c.write_places-2.ensures);
      kind_is = table-self _ _ _ c.write_kinds.ensures;
      direction_is = table-self _ _ _ c.write_directions.ensures;
    }
