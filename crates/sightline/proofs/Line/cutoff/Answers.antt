-- By a bound of the view the boxes need not be asked again.
use Rattle.std.proofs.Common.{rules, refl, length, arith, true, false, ltb, leb, Some, None}
use Rattle.std.proofs.lemmas.List.Sorted.{IsPartitionPoint-from_clause, IsPartitionedBy-ltb, IsPartitionedBy-leb, IsNonDecreasingBy-from_default}
use Rattle.sightline.specs.Bound.{before}
use Rattle.sightline.proofs.Halves.{lead-is, cutoff-by}
use Rattle.sightline.proofs.Line.cutoff.Goals as goal
use Rattle.sightline.proofs.Line.cutoff.Goals.{in-Some, in-Some-2, in-None, in-None-2}

pub returns : goal.returns
returns c =
    let rises = IsNonDecreasingBy-from_default (λ x. x) c.args.coords.now 0 c.requires.rising.rising in
    elim c.match-bound.branch [
      | in-Some w ↦
          let point = IsPartitionPoint-from_clause (λ x. ltb x w.in-Some.edge) _ _ w.partition_point-passed.ensures.partitioned (IsPartitionedBy-ltb (λ x. x) _ _ rises) (λ a r q k. search rules) in
          cutoff-by _ _ _ (Some w.in-Some.edge) _ _ _ c.requires.rising w.in-Some.ensures (rw (w.passed-is, w.if-ahead.true) (lead-is (before true (Some w.in-Some.edge)) c.args.coords.now _ w.partition_point-passed.ensures.bound (λ k h. point.0 k 0 (omega arith) h) (λ k h lt. point.1 k 0 h lt)))
      | in-Some-2 w ↦
          let point = IsPartitionPoint-from_clause (λ x. leb x w.in-Some-2.edge) _ _ w.partition_point-passed-in-Some-2.ensures.partitioned (IsPartitionedBy-leb (λ x. x) _ _ rises) (λ a r q k. search rules) in
          cutoff-by _ _ _ (Some w.in-Some-2.edge) _ _ _ c.requires.rising w.in-Some-2.ensures (rw (w.passed-is, w.if-ahead.false) (lead-is (before false (Some w.in-Some-2.edge)) c.args.coords.now _ w.partition_point-passed-in-Some-2.ensures.bound (λ k h. point.0 k 0 (omega arith) h) (λ k h lt. point.1 k 0 h lt)))
      | in-None w ↦
          cutoff-by _ _ _ None _ _ _ c.requires.rising w.in-None.ensures (rw (w.passed-is, w.if-ahead-2.true) (lead-is (before true None) c.args.coords.now (length c.args.coords.now) (omega arith) (λ k h. refl) (λ k h lt. absurd (omega arith))))
      | in-None-2 w ↦
          cutoff-by _ _ _ None _ _ _ c.requires.rising w.in-None-2.ensures (rw (w.passed-is, w.if-ahead-2.false) (lead-is (before false None) c.args.coords.now 0 (omega arith) (λ k h. absurd (omega arith)) (λ k h lt. refl)))
    ]
