-- 01, 'Desk and page text': the records that a page is made of, as rows of words in kept order. A page is a definition over the lists alone.
use Rattle.std.specs.Prelude.{List, [], ◌∷◌, ◌++◌, ℕ, length}
use Rattle.book.specs.Book.{Record, Lists}
use Rattle.anchors.specs.Records.{Records, records}

-- records one after another
unfoldable pub flat : List Record → List ℕ
flat [] = []
flat (r ∷ rs) = r ++ flat rs

abbrev pub page_of : Lists → Records
page_of l =
    records (flat l.boxes) (length l.boxes) (flat l.ports) (length l.ports)
    (flat l.nets) (length l.nets) (flat l.ends) (length l.ends)
