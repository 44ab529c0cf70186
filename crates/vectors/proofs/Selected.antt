-- What a desk that is found valid gives.
use Rattle.std.proofs.Common.{◌≡◌, ℕ, List, true, sym, subst}
use Rattle.desk.specs.Desk.{book_of}
use Rattle.book.specs.Book.{valid}
use Rattle.desk.proofs.Valid.{head_ok}
use Rattle.anchors.specs.Records.{Records}
use Rattle.page_graph.specs.Lent.{Asked}
use Rattle.select.specs.Page.{page_of}
use Rattle.select.proofs.Asked.{asked}

pub asked-of : (ws : List ℕ) (r : Records) → r ≡ page_of (book_of ws).lists → valid (book_of ws) ≡ true → Asked r
unfolding book_of
asked-of ws r e v = subst Asked (sym e) (asked (book_of ws).lists (head_ok ws v))
