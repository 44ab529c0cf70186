use borrow.Author.Tests.{lt-ltb, le-ltb}
use Rattle.fixed.proofs.Lists.{length-ups}
use Rattle.scan.specs.Scan.{scan_anchor}
use Rattle.scan.proofs.Builder.scan_anchor.Goals.{else-i-self-via-then-i-self+else-j-self, else-i-self-via-else-i-self}
use Rattle.scan.proofs.Builder.scan_anchor.Goals as goal

pub returns-then-j-self-clause-built : goal.returns-then-j-self-clause-built
unfolding scan_anchor
returns-then-j-self-clause-built c =
    rw (← c.in-Some.ensures.0, ← c.index-i.ensures, ← c.index-j.ensures, length-ups c.args.self.now.page.ax.now, length-ups c.args.self.now.page.ay.now, lt-ltb _ _ c.in-Some.ensures.1, lt-ltb _ _ c.if-i-self.true, lt-ltb _ _ c.if-j-self.true) c.scans.ensures.built

pub returns-else-i-self-clause-built : goal.returns-else-i-self-clause-built
unfolding scan_anchor
returns-else-i-self-clause-built c =
    let n = c.in-Some.ensures in
    rw (← n.0, ← c.index-i.ensures, ← c.index-j.ensures, length-ups c.args.self.now.page.ax.now, length-ups c.args.self.now.page.ay.now, lt-ltb _ _ n.1) (elim c.else-i-self.branch [
      | else-i-self-via-then-i-self+else-j-self w ↦ rw (lt-ltb _ _ w.if-i-self.true, le-ltb _ _ w.if-j-self.false)
      | else-i-self-via-else-i-self w ↦ rw (le-ltb _ _ w.if-i-self.false)
    ])

pub returns-in_default-clause-built : goal.returns-in_default-clause-built
unfolding scan_anchor
returns-in_default-clause-built c = rw (le-ltb _ _ c.in_default.ensures)
