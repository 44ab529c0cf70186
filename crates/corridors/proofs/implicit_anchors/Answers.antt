-- The axis lists are the sorted distinct edges; the rows along x first, then those along y.
use Rattle.std.proofs.Common.{◌≡◌, ℕ, ◌-◌, length, take, sym, ap, ◌∙◌, arith}
use Rattle.std.proofs.lemmas.List.{length-take-le, length-take, length-append, length-drop}
use Rattle.fixed.specs.Up.{ups}
use Rattle.corridors.specs.declared.row.Row.{Row}
use Rattle.corridors.specs.Grid.{stacked}
use Rattle.corridors.specs.Rules.{xs_of, ys_of}
use Rattle.corridors.proofs.Crossing.{answered, answered-full, rest-kept, lent-edges, lent-inside}
use Rattle.corridors.proofs.implicit_anchors.Goals as goal

pub invariant_of-level_grid-clause-inside : goal.invariant_of-level_grid-clause-inside
invariant_of-level_grid-clause-inside c =
    lent-inside _ _ _ _ _ c.edges_signed-nx.ensures.axis_value c.requires.edges_bound.min_x_inside c.requires.edges_bound.max_x_inside

pub invariant_of-upright_grid-clause-inside : goal.invariant_of-upright_grid-clause-inside
invariant_of-upright_grid-clause-inside c =
    lent-inside _ _ _ _ _ c.edges_signed-ny.ensures.axis_value c.requires.edges_bound.min_y_inside c.requires.edges_bound.max_y_inside

pub corridors-requires : goal.corridors-requires
corridors-requires c =
    let kx : length (take c.edges_signed-nx.result c.edges_signed-nx.new.axis) ≡ c.edges_signed-nx.result = length-take-le _ c.edges_signed-nx.new.axis (omega (arith, c.edges_signed-nx.auto.axis)) in
    let ky : length (take c.edges_signed-ny.result c.edges_signed-ny.new.axis) ≡ c.edges_signed-ny.result = length-take-le _ c.edges_signed-ny.new.axis (omega (arith, c.edges_signed-ny.auto.axis)) in
    (length-take-le c.saturating_sub.result _ (omega arith) ∙ c.saturating_sub.ensures ∙ ap (λ (n : ℕ). n - 1) (sym ky), omega arith, c.requires.room)

pub returns-in_err-level-clause-value : goal.returns-in_err-level-clause-value
returns-in_err-level-clause-value c =
    let ex : ups (take c.edges_signed-nx.result c.edges_signed-nx.new.axis) ≡ xs_of (stacked c.args.boxes.now) = lent-edges _ _ _ _ _ c.edges_signed-nx.ensures.axis_value in
    let ey : ups (take c.edges_signed-ny.result c.edges_signed-ny.new.axis) ≡ ys_of (stacked c.args.boxes.now) = lent-edges _ _ _ _ _ c.edges_signed-ny.ensures.axis_value in
    rw c.from_residual.ensures (answered-full c.args.boxes.now (xs_of (stacked c.args.boxes.now)) (ys_of (stacked c.args.boxes.now)) c.args.anchors.now (rw (ex, ey) at c.in_err-level.ensures))

pub corridors-requires-2 : goal.corridors-requires-2
corridors-requires-2 c =
    let kx : length (take c.edges_signed-nx.result c.edges_signed-nx.new.axis) ≡ c.edges_signed-nx.result = length-take-le _ c.edges_signed-nx.new.axis (omega (arith, c.edges_signed-nx.auto.axis)) in
    let ky : length (take c.edges_signed-ny.result c.edges_signed-ny.new.axis) ≡ c.edges_signed-ny.result = length-take-le _ c.edges_signed-ny.new.axis (omega (arith, c.edges_signed-ny.auto.axis)) in
    (length-take-le c.saturating_sub-2.result _ (omega (arith, c.corridors.auto.rows, length-append {A = Row}, length-drop {A = Row}, length-take {A = Row})) ∙ c.saturating_sub-2.ensures ∙ ap (λ (n : ℕ). n - 1) (sym kx), c.in_ok-level.ensures.most, omega (arith, c.corridors.auto.anchors, c.requires.room))

pub returns-clause-value : goal.returns-clause-value
returns-clause-value c =
    let ex : ups (take c.edges_signed-nx.result c.edges_signed-nx.new.axis) ≡ xs_of (stacked c.args.boxes.now) = lent-edges _ _ _ _ _ c.edges_signed-nx.ensures.axis_value in
    let ey : ups (take c.edges_signed-ny.result c.edges_signed-ny.new.axis) ≡ ys_of (stacked c.args.boxes.now) = lent-edges _ _ _ _ _ c.edges_signed-ny.ensures.axis_value in
    answered c.args.boxes.now (xs_of (stacked c.args.boxes.now)) (ys_of (stacked c.args.boxes.now)) c.in_ok-level.level c.args.anchors.now c.corridors.new.anchors c.corridors.new.rows (rw (ex, ey) at c.in_ok-level.ensures) (omega (arith, c.corridors.auto.anchors, c.requires.room)) c.corridors-2.result c.corridors-2.new.anchors c.corridors-2.new.rows (omega (arith, c.corridors-2.auto.anchors, c.corridors.auto.anchors, c.requires.room)) (rw (ex, ey) at c.corridors-2.ensures)

pub returns-clause-rest : goal.returns-clause-rest
returns-clause-rest c =
    let ex : ups (take c.edges_signed-nx.result c.edges_signed-nx.new.axis) ≡ xs_of (stacked c.args.boxes.now) = lent-edges _ _ _ _ _ c.edges_signed-nx.ensures.axis_value in
    let ey : ups (take c.edges_signed-ny.result c.edges_signed-ny.new.axis) ≡ ys_of (stacked c.args.boxes.now) = lent-edges _ _ _ _ _ c.edges_signed-ny.ensures.axis_value in
    rest-kept c.args.boxes.now (xs_of (stacked c.args.boxes.now)) (ys_of (stacked c.args.boxes.now)) c.in_ok-level.level c.args.anchors.now c.corridors.new.anchors c.corridors.new.rows (rw (ex, ey) at c.in_ok-level.ensures) (omega (arith, c.corridors.auto.anchors, c.requires.room)) c.corridors-2.result c.corridors-2.new.anchors c.corridors-2.new.rows _ c.corridors-2.ensures
