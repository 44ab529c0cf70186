use mathlib.Core.Path.{◌≡◌, ap}
use native.Mathlib.Omega.{arith}
use lib.IntN.{ℤ, nat_abs}
use mir.Syntax.{w64}
use mir.Val.{SFits, to_z, of_z}
use mir.Facts.{to_z-of_z}
use Rattle.fixed.proofs.Machine.{moved-is, moved-lt}
use Rattle.fixed.proofs.moved.Goals as goal

-- a sum that fits, read back
read_back : (sum m : ℤ) → sum ≡ m → SFits w64 m → to_z w64 (of_z w64 sum) ≡ m
read_back sum m e f = rw e (to_z-of_z f)

pub returns : goal.returns
returns c =
    ap nat_abs (read_back _ _ (moved-is c.args.a c.args.by c.requires.0 c.ranges.a.fits c.ranges.by) (record { sfits = omega (arith, moved-lt c.args.a c.args.by c.requires.0 c.requires.1) }))
