use mathlib.Core.Path.{◌≡◌, ap, ◌∙◌}
use native.Mathlib.Omega.{arith}
use Prim.Native.Nat.{ℕ, ◌+◌, ◌*◌, ◌/◌}
use borrow.Author.Tests.{eq-eqb, ne_eqb}
use lib.IntN.{pos, neg_ℤ}
use mir.Syntax.{w32}
use mir.ValLaws.{to_z-of_z}
use Rattle.fixed.specs.Track.{track}
use Rattle.fixed.proofs.Machine.{neg-fits, neg-times, one_more}
use Rattle.fixed.proofs.track_offset.Goals as goal

pub returns-then-t-eq0 : goal.returns-then-t-eq0
unfolding track
returns-then-t-eq0 c =
    rw (neg-times (c.args.t / 2) 1280 (omega arith), eq-eqb _ _ c.if-t-eq0.true)
    (to_z-of_z w32 (neg_ℤ (pos (c.args.t / 2 * 1280))) (neg-fits (c.args.t / 2 * 1280) (omega arith)))

pub returns-else-t-eq0 : goal.returns-else-t-eq0
unfolding track
returns-else-t-eq0 c =
    let t : ℕ = c.args.t in
    let same : (t / 2 + 1) * 1280 ≡ (t + 1) / 2 * 1280 = omega arith in
    rw (one_more (t / 2) 1280 (omega arith), ne_eqb _ _ c.if-t-eq0.false) (to_z-of_z w32 (pos ((t / 2 + 1) * 1280)) (record { sfits = omega arith }) ∙ ap pos same)
