use Rattle.std.proofs.Common.{◌≡◌, ◌+◌, ◌-◌, ◌*◌, arith, length, take, drop, length-drop}
use Rattle.std.proofs.lemmas.List.{length-take-le}
use Rattle.columns.proofs.Laws.{column-fill, column-fill-only}
use Rattle.columns.proofs.fill.Goals as goal

pub returns : goal.returns
returns c =
    let k : c.args.w * c.args.n + c.args.n - c.args.w * c.args.n ≡ c.args.n = omega arith in
    let size : length (take (c.args.w * c.args.n + c.args.n - c.args.w * c.args.n) (drop (c.args.w * c.args.n) c.args.list.now)) ≡ c.args.n = rw k (length-take-le c.args.n (drop (c.args.w * c.args.n) c.args.list.now) (omega (arith, length-drop (c.args.w * c.args.n) c.args.list.now))) in
    let e = rw size at (c.fill.ensures.after (λ y h. h)) in
    (column-fill _ _ _ _ _ c.requires _ k e, column-fill-only _ _ _ _ _ c.requires _ k e)
