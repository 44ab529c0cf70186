-- `desk::lay` meets its contract. All entries move up one place, and the entry lands before them; the depth stops at 32.
use mathlib.Core.Path.{refl}
use native.Mathlib.Omega.{arith}
use borrow.Author.Rules.{rules}
use Rattle.std.proofs.lemmas.Slice.{put_mid-paste}
use Rattle.rows.specs.Rows.{pasted}
use Rattle.desk.proofs.Whole
use Rattle.desk.proofs.lay.Goals as goal

pub returns : goal.returns
unfolding pasted
returns c =
    Whole.laid_is c.args.desk.now c.args.entry.now _ _ _ c.copy_within.ensures.after
    (put_mid-paste 2437 7 _ _ c.args.entry.now 7 c.copy_from_slice.ensures.after refl (search rules)) (omega (arith, c.min-depth.ensures, c.saturating_add.ensures))
