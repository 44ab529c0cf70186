-- The net's endpoints, its wires and its row.
use Rattle.layout.proofs.Laying.{net-laid, net-room}
use Rattle.layout.proofs.lay_net.Goals as goal

pub returns-clause-value : goal.returns-clause-value
returns-clause-value c =
    let p = c.take_points-k.ensures in
    net-laid _ _ _ _ _ _ _ _ _ _ _ _ _ p.x_value p.y_value c.connect_net-routed.ensures.value _ _ _ _ c.number_of-number.ensures c.record_net.ensures

pub returns-clause-fit : goal.returns-clause-fit
returns-clause-fit c =
    let p = c.take_points-k.ensures in
    net-room _ _ _ _ _ _ _ _ _ _ _ _ _ p.x_value p.y_value c.connect_net-routed.ensures.value c.requires.fit.0
