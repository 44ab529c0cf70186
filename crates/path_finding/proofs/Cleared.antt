-- Zeros are no line, on any graph.
use Rattle.std.proofs.Common.{◌≡◌, refl, ℕ, zero, suc, ◌∷◌, List, [], ℤ, pos, length, replicate, ap, sym, ◌∙◌, arith}
use Rattle.fixed.specs.Up.{BIAS, up, ups}
use Rattle.nodes.specs.Graph.{Graph}
use Rattle.path_finding.specs.Line.{table, place_at}
use Rattle.path_finding.specs.Lent.{WrittenIn, Cleared}
use Rattle.path_finding.specs.declared.Output.{Output}
use Rattle.path_finding.proofs.Laws.{place-off, kind-off, direction-off}
use Rattle.path_finding.proofs.Lines.{table-of, table-self}

pub ups-zeros : (n : ℕ) → ups (replicate n (pos 0)) ≡ replicate n BIAS
unfolding ups up
ups-zeros zero = refl
ups-zeros (suc n) = ap (λ (l : List ℕ). BIAS ∷ l) (ups-zeros n)

module _ (a b : Output) (c : Cleared a b) where
  places : (cs : List ℕ) (l : List ℤ) (n : ℕ) → l ≡ replicate n (pos 0) → ups l ≡ table (place_at cs []) (length (ups l))
  places cs l n e = table-self _ _ n (ap ups e ∙ ups-zeros n ∙ table-of _ BIAS n (λ k. sym (place-off cs [] k (omega arith))))

  pub cleared-written : (G : Graph) → WrittenIn G [] b
  cleared-written G =
      record {
        x_is = places G.xs _ _ c.no_x;
        y_is = places G.ys _ _ c.no_y;
        kind_is = table-self _ _ _ (c.no_kind ∙ table-of _ 0 _ (λ k. sym (kind-off 0 k (omega arith) (omega arith))));
        direction_is = table-self _ _ _ (c.no_direction ∙ table-of _ 0 _ (λ k. sym (direction-off G.links [] k (omega arith))));
      }
