-- The rows stand behind the count in the kind's area.
use Rattle.std.proofs.Common.{ℕ, ◌+◌, ap, refl, arith}
use Rattle.select.proofs.Flat.{rows_end, rows-desk}
use Rattle.select.proofs.rows_of.Goals as goal

pub overflow_mul-result : goal.overflow_mul-result
overflow_mul-result c =
    omega (arith, rows_end c.args.kind c.args.desk.now c.requires.desk_value _ _ _ _ (ap (λ (a : ℕ). 1 + a) c.area_at-a.ensures) c.width.ensures c.count_of-n.ensures refl)

pub overflow_add-result-3 : goal.overflow_add-result-3
overflow_add-result-3 c =
    omega (arith, rows_end c.args.kind c.args.desk.now c.requires.desk_value _ _ _ _ (ap (λ (a : ℕ). 1 + a) c.area_at-a.ensures) c.width.ensures c.count_of-n.ensures refl)

pub slice_bounds-result-end : goal.slice_bounds-result-end
slice_bounds-result-end c =
    omega (arith, rows_end c.args.kind c.args.desk.now c.requires.desk_value _ _ _ _ (ap (λ (a : ℕ). 1 + a) c.area_at-a.ensures) c.width.ensures c.count_of-n.ensures refl)

pub returns : goal.returns
returns c =
    rows-desk c.args.kind c.args.desk.now c.requires.desk_value _ _ _ _ (ap (λ (a : ℕ). 1 + a) c.area_at-a.ensures) c.width.ensures c.count_of-n.ensures refl
