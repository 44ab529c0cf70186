-- By a bound of the view the boxes need not be asked again.
use Rattle.std.proofs.Common.{◌+◌, refl, length, arith, true, false, Some, None}
use borrow.Author.Tests.{lt-ltb, le-ltb, le-leb, lt-leb}
use Rattle.fixed.specs.Up.{ups}
use Rattle.fixed.proofs.Lists.{length-ups}
use Rattle.sightline.specs.Bound.{before}
use Rattle.sightline.proofs.Halves.{lead-is, lead-ranked, cutoff-by}
use Rattle.sightline.proofs.cut.Goals as goal
use Rattle.sightline.proofs.cut.Goals.{in-Some, in-Some-2, in-None, in-None-2}

pub rank-count-requires : goal.rank-count-requires
rank-count-requires c = λ j k h l. c.requires.rising.rising j k h (omega (arith, length-ups c.args.coords.now))

pub rank-count-requires-in-Some-2 : goal.rank-count-requires-in-Some-2
rank-count-requires-in-Some-2 c = λ j k h l. c.requires.rising.rising j k h (omega (arith, length-ups c.args.coords.now))

pub returns : goal.returns
returns c = record {
  cuts = λ l a b.
      let xs = c.args.coords.now in
      elim c.match-bound.branch [
        | in-Some w ↦
            let e = w.in-Some.edge in
            let r = w.rank-count.ensures in
            cutoff-by l a _ (Some e) _ _ _ c.requires.rising (rw w.in-Some.is at b) (rw (w.count-is, w.if-ahead.true) (lead-ranked (before true (Some e)) xs e _ (λ x h. lt-ltb x e h) (λ x h. le-ltb x e h) r.bound r.below r.onward))
        | in-Some-2 w ↦
            let e = w.in-Some-2.edge in
            let r = w.rank-count-in-Some-2.ensures in
            cutoff-by l a _ (Some e) _ _ _ c.requires.rising (rw w.in-Some-2.is at b) (rw (w.count-is, w.if-ahead.false) (lead-ranked (before false (Some e)) xs (e + 1) _ (λ x h. le-leb x e (omega arith)) (λ x h. lt-leb x e (omega arith)) r.bound r.below r.onward))
        | in-None w ↦
            cutoff-by l a _ None _ _ _ c.requires.rising (rw w.in-None.is at b) (rw (w.count-is, w.if-ahead-2.true) (lead-is (before true None) (ups xs) (length xs) (omega (arith, length-ups xs)) (λ k h. refl) (λ k h lt. absurd (omega (arith, length-ups xs)))))
        | in-None-2 w ↦
            cutoff-by l a _ None _ _ _ c.requires.rising (rw w.in-None-2.is at b) (rw (w.count-is, w.if-ahead-2.false) (lead-is (before false None) (ups xs) 0 (omega arith) (λ k h. absurd (omega arith)) (λ k h lt. refl)))
      ];
}
