-- A `Finder` that keeps its graph and its lent lists.
use Rattle.std.proofs.Common.{refl, ◌∙◌}
use Rattle.path_finding.specs.declared.Finder.{Finder}
use Rattle.path_finding.specs.Lent.{Kept}

pub kept-refl : {f : Finder} → Kept f f
kept-refl = record { same_graph = refl; same_cells = refl; same_tree = refl; same_list = refl; long_cells = refl; long_tree = refl; long_list = refl }

pub kept_trans : {f g h : Finder} → Kept f g → Kept g h → Kept f h
kept_trans k l =
    record {
      same_graph = l.same_graph ∙ k.same_graph;
      same_cells = l.same_cells ∙ k.same_cells;
      same_tree = l.same_tree ∙ k.same_tree;
      same_list = l.same_list ∙ k.same_list;
      long_cells = l.long_cells ∙ k.long_cells;
      long_tree = l.long_tree ∙ k.long_tree;
      long_list = l.long_list ∙ k.long_list;
    }
