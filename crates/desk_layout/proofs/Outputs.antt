-- The outputs of a layout: what is left is by the number.
--     no-drawing    a page with no net is zeros
--     laid-left     a crowded page is laid out as zeros
use mathlib.Core.Path.{◌≡◌, refl, ap, ◌∙◌}
use mathlib.Core.List.{List}
use mathlib.Core.Bool.{Bool, true, false, cond}
use Prim.Native.Nat.{ℕ}
use lib.Dec.{eqb}
use lib.IntN.{ℤ}
use lib.ListN.{length}
use Rattle.fixed.specs.Up.{ups}
use Rattle.fixed.proofs.Lists.{length-ups}
use Rattle.anchors.specs.Records.{Records}
use Rattle.wire.specs.Wires.{vertices}
use Rattle.page_graph.specs.Page.{crowded}
use Rattle.layout.specs.Layout.{page, blank}
use Rattle.layout.specs.Answer.{layout_page, layout_number as page_number}
use Rattle.page_layout.specs.Drawing.{Drawing, drawing, lists_of, bare, laid}
use Rattle.book.specs.Book.{Lists}
use Rattle.select.specs.Page.{page_of}
use Rattle.desk_layout.specs.declared.Choice.{Choice}
use Rattle.desk_layout.specs.Layout.{is_pruned, is_apart, layout_number, zeros, left}

pub no-drawing : (nets nets' : List ℕ) (x x' y y' : List ℤ) (kinds kinds' joins joins' : List ℕ)
    → page nets' (vertices (ups x') (ups y') kinds' 0) joins' 0 ≡ blank (length nets) (length x) (length y) (length kinds) (length joins)
    → drawing nets' x' y' kinds' joins' ≡ zeros (drawing nets x y kinds joins)
unfolding lists_of blank zeros
no-drawing nets nets' x x' y y' kinds kinds' joins joins' e = ap lists_of e ∙ rw (length-ups x, length-ups y)

crowded-zeros : (r : Records) (pruned apart : Bool) (d : Drawing) → crowded r ≡ true → laid r pruned apart d ≡ zeros d
unfolding laid layout_page lists_of bare blank zeros
crowded-zeros r pruned apart d e = rw e

module _ (l : Lists) (q : Choice) (d : Drawing) where
  pub laid-left : (r : ℕ) → r ≡ layout_number l → laid (page_of l) (is_pruned q) (is_apart q) d ≡ left r l q d
  unfolding left layout_number page_number
  laid-left r er = rw er (go (crowded (page_of l)) refl)
    where
      go : (c : Bool) → crowded (page_of l) ≡ c
          → laid (page_of l) (is_pruned q) (is_apart q) d ≡ cond (eqb (cond c 8 0) 0) (laid (page_of l) (is_pruned q) (is_apart q) d) (zeros d)
      go true e = crowded-zeros (page_of l) (is_pruned q) (is_apart q) d e
      go false e = refl
