-- 01, 'Numbers handed back': what a layout leaves in the lists that it is lent, from a page's records alone.
use Rattle.std.specs.Prelude.{Bool, List, ℕ, ℤ, length}
use Rattle.fixed.specs.Up.{ups}
use Rattle.anchors.specs.Records.{Records}
use Rattle.layout.specs.declared.types.Sheet.{Sheet}
use Rattle.layout.specs.Layout.{Page, blank}
use Rattle.layout.specs.Answer.{layout_page}

-- the nets' rows (number, first vertex, vertices, first junction, junctions), the vertices' places, counted from −2^31, and letters, and the junctions' rows
-- (vertex, joining end vertex, letter)
pub record Drawing : Type 0 where
  pub nets : List ℕ
  pub xs : List ℕ
  pub ys : List ℕ
  pub kinds : List ℕ
  pub joins : List ℕ

abbrev pub drawing : List ℕ → List ℤ → List ℤ → List ℕ → List ℕ → Drawing
drawing nets x y kinds joins = record { nets = nets; xs = ups x; ys = ups y; kinds = kinds; joins = joins }

abbrev pub drawing_in : Sheet → Drawing
drawing_in s = drawing s.nets.now s.x.now s.y.now s.letters.now s.joins.now

-- the page's lists
unfoldable pub lists_of : Page → Drawing
lists_of P = record { nets = P.nets; xs = P.wires.x; ys = P.wires.y; kinds = P.wires.kinds; joins = P.joins }

-- a page with no net in lists of these lengths: zeros
unfoldable pub bare : Drawing → Page
bare d = blank (length d.nets) (length d.xs) (length d.ys) (length d.kinds) (length d.joins)

-- all nets' rows, vertices and junctions, zeros behind them; zeros everywhere on a crowded page
unfoldable pub laid : Records → Bool → Bool → Drawing → Drawing
laid r pruned apart d = lists_of (layout_page r pruned apart (bare d))
