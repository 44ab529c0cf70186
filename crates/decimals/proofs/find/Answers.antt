use Rattle.std.proofs.Common.{eqb, drop, rules, tests}
use Rattle.std.proofs.lemmas.Iterator.{YieldsList-from_slice}
use Rattle.std.proofs.lemmas.Iterator.Search.{position_from_yields_List}
use Rattle.std.proofs.lemmas.List.{take_rest}
use Rattle.decimals.proofs.Split.{place_is}
use Rattle.decimals.proofs.find.Goals as goal

pub returns : goal.returns
returns c =
    let s = drop c.args.from c.args.s.now in
    let p = position_from_yields_List (λ x. eqb x c.args.key) _ _ c.position.result c.position.ensures.ran (YieldsList-from_slice s (rw (← take_rest c.args.s.now c.args.from) cc)) (λ x b q k. search (rules, tests)) in
    rw (place_is c.args.key s, ← p, c.unwrap_or.ensures, take_rest c.args.s.now c.args.from)
