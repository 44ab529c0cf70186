use Rattle.std.proofs.Common.{ap, List, ℕ, ◌+◌}
use native.Mathlib.Omega.{arith}
use Rattle.fixed.specs.Up.{ups}
use Rattle.wire.specs.Wires.{push_end, wires, vertices, ends}
use Rattle.wire.proofs.Words.{words-set}
use Rattle.wire.proofs.types.Wires.push_end.Goals as goal

pub returns-clause-value : goal.returns-clause-value
unfolding push_end
returns-clause-value c =
    let w = c.args.self.now in
    rw (← c.from-letter.ensures) (ap (λ (ws : List ℕ). wires (vertices (ups w.x.now) (ups w.y.now) w.letters.now w.n) (ends ws (w.m + 1))) (words-set w.ends.now w.m _ (omega arith)))
