-- A valid page is one whose graph can be built, and its ports and ends are places of a page.
use mathlib.Core.Path.{◌≡◌}
use mathlib.Core.List.{List}
use mathlib.Core.Bool.{true}
use Prim.Native.Nat.{ℕ}
use lib.ListN.{length}
use Rattle.book.specs.Book.{Lists, ok_lists}
use Rattle.anchors.specs.Records.{records}
use Rattle.page_graph.specs.Lent.{Asked}
use Rattle.page_graph.specs.Claims.{Placed}
use Rattle.select.specs.Page.{flat, page_of}
use Rattle.select.proofs.Ok.{held, few_boxes, explicit-low, box-min-x, box-min-y, box-max-x, box-max-y, port_x, port_y, end_x, end_y}

module _ (l : Lists) (ok : ok_lists l ≡ true) where
  pub asked : Asked (page_of l)
  asked =
      record {
        held = held l ok;
        few_boxes = few_boxes l ok;
        edged = record { least_x = box-min-x l ok; least_y = box-min-y l ok; greatest_x = box-max-x l ok; greatest_y = box-max-y l ok };
        few_explicit = explicit-low l ok;
      }

  pub placed : Placed (page_of l)
  placed = record { port_x = port_x l ok; port_y = port_y l ok; end_x = end_x l ok; end_y = end_y l ok }

-- the rows and counts of the four kinds are the page
pub page_is : (l : Lists) (bs ps ns es : List ℕ) (nb np nn ne : ℕ) → bs ≡ flat l.boxes → nb ≡ length l.boxes → ps ≡ flat l.ports → np ≡ length l.ports
    → ns ≡ flat l.nets → nn ≡ length l.nets → es ≡ flat l.ends → ne ≡ length l.ends → records bs nb ps np ns nn es ne ≡ page_of l
page_is l bs ps ns es nb np nn ne eb ib ep ip en in_is ee ie = rw (eb, ib, ep, ip, en, in_is, ee, ie)
